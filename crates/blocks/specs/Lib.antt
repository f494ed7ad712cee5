-- Blocks of equations, and the block set that holds them.
pub mod Blocks
pub mod BlockSets
pub mod Places
