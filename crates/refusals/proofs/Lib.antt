-- The laws of the tests: what later crates cite is in Accepted, Admitted, Lowest, FirstFailure and RefusalNumbers.
pub mod Sides
pub mod Starts
pub mod CellValues
pub mod Numbers
pub mod FirstFailure
pub mod RefusalNumbers
pub mod LaterTests
pub mod Accepted
pub mod Lowest
pub mod Admitted
