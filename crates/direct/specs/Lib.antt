-- What a rule finds in blocks and how its answer is held; the direct rule in the Rust's order, and what it finds at a position without one.
pub mod Found
pub mod Direct
pub mod AtPosition
pub mod Answers
