-- What the program fills its buffer with.
pub mod Clauses
