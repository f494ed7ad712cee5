-- Stored records carried over: what becomes of them, of a part of the input, and what their starts meant.
pub mod Migrated
pub mod Parts
pub mod Steps
pub mod Stored
