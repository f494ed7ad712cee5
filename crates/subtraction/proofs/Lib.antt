-- The laws of the subtraction rule, in reading order.
-- on blocks, and at a position: what it lists is so in every layout that fits
pub mod MinusLaws
pub mod Soundness
-- what it leaves fits where the blocks do, and is fit for the direct rule
pub mod LeftFits
pub mod ReadyBlocks
-- what the functions do: pairs of equations, what is marked, and the struct
pub mod SetPlaces
pub mod MarkedSoFar
pub mod Pairs
pub mod MinusMarks
pub mod MarkedLists
pub mod MinusAnswer
pub mod SweptLeft
pub mod MinusLists
