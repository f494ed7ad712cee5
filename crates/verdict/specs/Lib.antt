-- The verdict, and what the functions that reach it are told.
pub mod Rules
pub mod Verdict
pub mod Findings
