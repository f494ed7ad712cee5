-- A line of numbers as a position or a board.
pub mod Lines
