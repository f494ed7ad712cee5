-- The laws of the verdict: loops over cells, a pass in any order, the passes underway, what the rules find, accepted boards, demand 3, and what a caller may rely on.
pub mod InPlaceAndEmpty
pub mod CellByCell
pub mod SamePass
pub mod FoundCells
pub mod KindsOfBoard
pub mod Underway
pub mod PassesOnBoard
pub mod ThreeFindings
pub mod TotalFindings
pub mod FromStart
pub mod DemandThree
pub mod Bounds
pub mod RoundsTold
pub mod TotalAnswers
pub mod NoContradictions
