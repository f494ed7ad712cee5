-- The theorems, in reading order.

-- layouts that fit, and the test that decides it
pub mod Layouts
pub mod Decision
-- equations, what they say of a position, and how they come apart in blocks and groups
pub mod Equations
pub mod Frontier
pub mod Blocks
pub mod Groups
-- demand 3 of every judge: its runs, the solver, the two halves of the proof, and the theorem
pub mod Own
pub mod Runs
pub mod Solver
pub mod Covers
pub mod Within
pub mod Pictures
pub mod Confluence
-- demand 3 of the passes over any sound and complete rule, such a rule for every test on layouts, and what a mine total changes
pub mod Rules
pub mod Steps
pub mod Passes
pub mod Enough
pub mod ForcedCells
pub mod MoreOpened
pub mod KnownTotal
pub mod Examples
