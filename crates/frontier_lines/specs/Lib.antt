-- What refresh_matrixs answers to a line of numbers.
pub mod Frontier
