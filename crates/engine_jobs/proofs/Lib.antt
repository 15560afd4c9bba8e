-- Laws of an arrival and of a completion.
pub mod Arriving
pub mod Finishing
pub mod Sparing
