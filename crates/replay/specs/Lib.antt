-- Stored answers, and what a run says of them.
pub mod Stored
