-- What the choice of a tick is made of and what it charges, as the code answers it.
pub mod Choice
pub mod Clauses
