-- The format of board records.
pub mod Records
