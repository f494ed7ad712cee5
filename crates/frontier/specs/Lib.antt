-- The frontier of a position, in the Rust's order, and the call's answer.
pub mod Frontier
pub mod Answer
