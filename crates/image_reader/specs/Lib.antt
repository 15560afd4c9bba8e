-- What the readers of an image answer.
pub mod Clauses
pub mod Held
