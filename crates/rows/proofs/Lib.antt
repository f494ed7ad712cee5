-- The laws of rows written into a table.
pub mod WrittenRows
