-- The rows of the definitions, and laws of numbers in decimal.
pub mod Computed
pub mod Decimal
pub mod Unique
