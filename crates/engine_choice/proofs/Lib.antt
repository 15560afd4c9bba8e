-- Laws of the mask, the choice and the charge, and that each answer is settled.
pub mod Charging
pub mod Choosing
pub mod Unique
