-- The laws of a block's cells and equations as they are written: the order of cells by their places, how places are given, how cells are put in order, and
-- their slots.
pub mod Order
pub mod Placing
pub mod Insertions
pub mod SortedSlots
