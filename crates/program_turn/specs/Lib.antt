-- The contracts of the functions that a turn is made of.
pub mod Inner
