-- The round in which each cell is opened; and how the code gives it.
pub mod Rounds
pub mod GivenRounds
