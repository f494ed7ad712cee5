-- The laws of the neighbour window: which cells the neighbours are, the row and the column of a cell's number, the walk of two nested loops over a
-- window, and a list of neighbours read from its array.
pub mod Neighbours
pub mod Lines
pub mod Places
pub mod Walk
pub mod Inner
pub mod Listed
