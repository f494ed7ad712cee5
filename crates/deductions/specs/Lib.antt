-- The three calls on a position, what a caller sees of them, what that means, and where they refuse with 6.
pub mod Answers
pub mod Calls
pub mod Contradictions
pub mod ByRule
