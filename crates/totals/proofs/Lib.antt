-- The laws of mine totals, in reading order.

-- sums of sets of numbers, and so many of a list's numbers chosen
pub mod SumsOfSets
pub mod ChosenNumbers
-- sets of numbers in arrays of bytes, and the sums of them
pub mod SetsInArrays
pub mod JoinedSets
-- one block: its counts, and what they say of a cell
pub mod BlockCounts
-- several blocks that share no cell
pub mod SeveralBlocks
-- the closed cells of a position, and the mines of a layout that fits it
pub mod InsideCells
-- a layout from what solves the blocks and mines on the inside cells
pub mod LayoutParts
-- what a total leaves to a cell
pub mod Totals
