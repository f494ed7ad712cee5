-- What a mine total leaves to the cells of a block and to the cells beside no open one.
pub mod Totals
-- sets of numbers in arrays of bytes, and the sums of them
pub mod Joining
