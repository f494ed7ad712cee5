-- The table of the small boards (SPECIFICATION 12).
pub mod Table
