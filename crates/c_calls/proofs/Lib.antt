-- Laws of what C reads.
pub mod Filling
pub mod Starting
