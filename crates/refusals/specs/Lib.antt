-- The refusals of SPECIFICATION 3.1 and the tests that give them.
pub mod Refusals
pub mod Tests
pub mod SharedTests
