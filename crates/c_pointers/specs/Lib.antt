-- What a function says of another one that it hands its pointers' values to.
pub mod Forms
pub mod Held
