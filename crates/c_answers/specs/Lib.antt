-- What C reads of each call.
pub mod Clauses
pub mod Held
