-- The laws of marks and of what they leave, in reading order.
-- a value written at cells
pub mod WrittenCells
-- lists of cells
pub mod HeldLists
-- cells marked, and listed by their marks
pub mod MarkedCells
pub mod ByMarks
-- what is left of equations, of a block put behind others, and of all blocks of a set
pub mod LeftEquations
pub mod LeftBehind
pub mod WhatIsLeft
pub mod LeftInSet
