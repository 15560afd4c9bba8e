-- What the proofs of the integrator's loop share.
pub mod Asking
pub mod Stretching
