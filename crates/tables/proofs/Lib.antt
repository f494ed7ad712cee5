-- The laws of the solution table as a call, in reading order.
-- the order by weight, as the arrays give it
pub mod WeighedGroups
-- how many rows a table has room for
pub mod TableRoom
-- the rows that are written, and what the caller sees of a block's table
pub mod WrittenTable
-- a block of a set, by its number
pub mod AskedBlock
-- what specs/Listed.antt says of the call
pub mod RowsOfOneWidth
pub mod TableCalls
