-- The rows hold, and each answer is settled.
pub mod Held
pub mod Unique
