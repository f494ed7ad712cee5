-- What the functions of the fourth rule are told and tell.
pub mod Cells
pub mod Blocks
