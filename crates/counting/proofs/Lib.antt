-- The laws of the walk over a block's groups, in reading order.
-- places marked, rows that count, and what a walk tells of them
pub mod Marks
pub mod Rows
pub mod WalkedRows
-- the states of a walk, and the key that tells them apart
pub mod Keys
pub mod UnderwayStates
pub mod Tables
-- the loop over the values of a group
pub mod TriedValues
-- the rows of the walk over the groups in their own order are the block's solutions
pub mod BlockRows
