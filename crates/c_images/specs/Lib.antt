-- What C reads of each call on an image.
pub mod Clauses
pub mod Held
