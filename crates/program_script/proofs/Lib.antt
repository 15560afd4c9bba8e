-- Laws of the digits of a number and of its form.
pub mod Digits
