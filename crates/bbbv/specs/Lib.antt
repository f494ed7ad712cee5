-- The 3BV of a board: its openings, the connected groups of zeros that they are, and the call's answer.
pub mod Openings
pub mod Groups
pub mod Answer
pub mod Flooded
