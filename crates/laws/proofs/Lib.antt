-- The laws of the words in specs/.
pub mod Cases
pub mod Elements
pub mod Loops
pub mod Mapped
pub mod Places
pub mod Parts
