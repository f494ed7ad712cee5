-- The definitions that the contracts of `grid` cite: cells and the neighbour window.
pub mod Cells
pub mod Window
