-- The sources of a position, their equations alone, and what the arrays hold into which they are read.
pub mod Sources
pub mod Equations
pub mod Reading
