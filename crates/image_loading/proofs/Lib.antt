-- Laws of what an image reads as.
pub mod Reading
