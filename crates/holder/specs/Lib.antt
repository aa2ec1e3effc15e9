pub mod Clauses
pub mod Answers
pub mod Widest
