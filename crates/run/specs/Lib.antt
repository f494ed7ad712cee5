-- What the program prints for a whole input, and what a part of the input is answered by.
pub mod Run
pub mod Parts
pub mod Steps
