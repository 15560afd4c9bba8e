-- What the integrator's loop says of itself.
pub mod Clauses
