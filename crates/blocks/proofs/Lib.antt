-- The laws of the block set: its slots, its ends, how it is filled, how it is read, the turns of the code's loops, and what an equation says.
pub mod Slots
pub mod SlotLaws
pub mod Ends
pub mod Filling
pub mod Reading
pub mod Turns
pub mod Saying
-- marks, lists of at most eight cells, places in the arrays, blocks put behind others, and where a block stands
pub mod MarkLaws
pub mod EightCells
pub mod Between
pub mod Behind
pub mod Standing
-- blocks as they should be, and what solves one
pub mod ProperBlocks
