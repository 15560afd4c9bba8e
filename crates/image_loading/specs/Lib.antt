-- What the steps of a reading owe one another, and where the entries lie that are handed on.
pub mod Inner
pub mod Clauses
