-- Laws of the run of the program.
pub mod Verdicts
pub mod OwnBytes
pub mod LineDemand
pub mod Texts
pub mod Fronts
pub mod OneLine
pub mod Joins
pub mod Parted
pub mod Underway
pub mod Moved
