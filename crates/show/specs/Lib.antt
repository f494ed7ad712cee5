-- Answers as lines of text.
pub mod Blocks
pub mod Cells
pub mod Refusals
