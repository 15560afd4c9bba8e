-- Laws of the lines and of the numbers in them.
pub mod Decimal
pub mod Putting
