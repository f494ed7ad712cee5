-- Steps over a list and then over another.
pub mod Folded
