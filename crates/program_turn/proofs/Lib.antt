-- What a turn puts, the line that it takes, and what a caller learns of it.
pub mod Doing
pub mod Outcomes
pub mod Lines
