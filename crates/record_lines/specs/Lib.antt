-- The lines that answer board records.
pub mod Answers
