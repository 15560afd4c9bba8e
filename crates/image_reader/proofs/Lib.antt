-- Laws of numbers in bytes, and that what is read is held and unique.
pub mod Held
pub mod Laws
pub mod Unique
