-- The contracts of the functions that put the parts of a line.
pub mod Inner
