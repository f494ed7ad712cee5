-- The shapes of the pattern answer, the answer, and what the functions that look for the shapes are told.
pub mod Shapes
pub mod Answer
pub mod Walk
