-- What the calls on a board answer to a line of numbers.
pub mod Patterns
pub mod Bbbv
pub mod Verdicts
