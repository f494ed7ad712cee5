-- The subtraction rule on blocks, in the Rust's order, and what the functions that hold equations against each other are told.
pub mod Minus
pub mod Pairs
