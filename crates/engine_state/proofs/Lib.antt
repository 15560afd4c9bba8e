-- Laws of the questions.
pub mod Answering
pub mod Margins
