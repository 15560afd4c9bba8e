-- Laws of what is stored.
pub mod Storing
