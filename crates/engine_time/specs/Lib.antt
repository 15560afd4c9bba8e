-- What the functions of time owe one another.
pub mod Inner
