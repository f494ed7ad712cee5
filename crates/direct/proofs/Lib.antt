-- The laws of rules and of the direct rule, in reading order.
-- what the rules rest on, and the direct rule on blocks
pub mod TakenOut
pub mod Answers
pub mod DirectLaws
-- at a position: what it lists is so in every layout that fits
pub mod Soundness
-- what the direct rule finds does not depend on its order
pub mod OrderFree
pub mod FromPosition
-- the frontier of a position is what the rules ask for
pub mod FrontierReady
-- what it leaves fits where the blocks do
pub mod SmallerBlocks
pub mod LeftFits
-- what the functions do: cells listed, the two sweeps, and all blocks at once
pub mod ListedCells
pub mod Sweeps
pub mod WholeSets
pub mod AllBlocks
pub mod LeftByMarks
pub mod RuleAnswers
pub mod DirectAnswer
pub mod SweptEquations
