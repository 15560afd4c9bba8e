-- The rows of the listing and of the turns, and that the contracts allow one outcome.
pub mod Computed
pub mod Unique
