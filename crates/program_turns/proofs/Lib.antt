-- Laws of the input's lines and of the turns.
pub mod Giving
pub mod Inputs
pub mod Falling
pub mod Resting
pub mod Turns
