-- The laws of the sources.

-- which cells they are, and how they are read into a list and their closed neighbours into slots
pub mod ListedSources
pub mod SourceLaws
-- what the slots and the list tell then
pub mod ReadSlots
pub mod ReadSources
pub mod Found
-- their equations, written into arrays one after another
pub mod Remainders
pub mod Written
pub mod EquationArrays
pub mod PlainReading
