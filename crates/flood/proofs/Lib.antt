-- The laws of the flood: that it opens exactly the cells that are reached, in whatever order; the stack; and the arrays that positions begin as.
pub mod Swapped
pub mod SoFar
pub mod Reached
pub mod Opening
pub mod Waiting
pub mod OnBoard
pub mod ClosedArrays
