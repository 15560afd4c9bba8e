-- A line of input and a line of output, in the order to read them in.
pub mod Numbers
pub mod Script
pub mod Decimal
pub mod Lines
pub mod Rows
