-- The search, the solutions of a block and the order of their table, and what the functions that search are told.
pub mod Trees
pub mod Solutions
pub mod TableRows
pub mod Searching
