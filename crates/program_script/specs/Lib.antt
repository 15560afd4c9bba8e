-- The contract of the functions that read a line's numbers.
pub mod Inner
