-- What is promised of the rules, in the order to read it in.
pub mod Joining
pub mod Spans
pub mod Runs
pub mod Borders
pub mod Needed
pub mod Promises
pub mod Histories
pub mod Held
