-- Groups of a block's cells, and what the functions that make them are told.
pub mod Groups
pub mod Grouping
pub mod Combining
