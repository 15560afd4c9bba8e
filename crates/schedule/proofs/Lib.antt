-- What the loops of the program know, and what its fillings are.
pub mod Looping
pub mod Fillings
