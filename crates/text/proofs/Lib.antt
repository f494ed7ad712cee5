-- The laws of text: written into a buffer, decimal numbers, and read from a line.
pub mod Writing
pub mod Decimals
pub mod Reading
