-- Laws of time, portion by portion, and of states in places.
pub mod Advancing
pub mod Asking
pub mod Leaving
pub mod Mirroring
pub mod Placing
pub mod Renewing
pub mod Searching
pub mod Rows
pub mod Turning
