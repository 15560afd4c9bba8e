-- What follows of what C reads: the rows hold, and each answer is settled.
pub mod Held
pub mod Unique
