-- The laws of solution tables as text.
pub mod TablesWritten
