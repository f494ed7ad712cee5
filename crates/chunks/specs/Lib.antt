-- Blocks split anew, in the Rust's order, and what the functions that do it are told.
pub mod Chunks
pub mod Splitting
