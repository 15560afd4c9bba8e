-- The rows of the forms.
pub mod Held
