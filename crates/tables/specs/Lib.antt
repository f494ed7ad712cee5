-- The solution table as a call, and what it means to a caller.
pub mod Tables
pub mod Listed
