-- The laws of lines of numbers: their words, their first numbers, and their cells.
pub mod Words
pub mod FirstNumbers
pub mod CellsSoFar
