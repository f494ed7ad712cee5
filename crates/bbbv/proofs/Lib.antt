-- The laws of 3BV: what a flood opens, that openings are the connected groups of zeros, what the code's floods tell, and all of it on a board with rows and columns.
pub mod Opened
pub mod ConnectedZeros
pub mod Flooded
pub mod OnBoard
-- a flood that opens the closed neighbours alone
pub mod ClosedNeighbours
