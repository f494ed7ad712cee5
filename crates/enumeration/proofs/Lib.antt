-- The laws of enumeration and of the three rules together, in reading order.
-- enumeration of a block, and at a position
pub mod EnumerationLaws
pub mod Completeness
pub mod NoSolution
-- on a board of rows and columns
pub mod BoardRules
-- what the search's answers show of each group
pub mod NotedMarks
pub mod SearchAnswers
pub mod ShownGroups
-- what the functions of enumeration do
pub mod UnmarkedGroups
pub mod ListedBlock
pub mod ListedBlocks
