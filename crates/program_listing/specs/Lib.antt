-- The whole output of the program, the turns that put it out, and the rows of both.
pub mod Listing
pub mod Turning
pub mod Worked
pub mod Rows
