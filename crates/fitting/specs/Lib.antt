-- The mathematics of the judge, from layouts to demand 3.
pub mod Layouts
pub mod Boards
pub mod Solver
pub mod Demand
pub mod Equations
pub mod Passes
pub mod Rules
pub mod ForcedCells
