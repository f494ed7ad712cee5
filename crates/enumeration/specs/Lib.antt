-- Enumeration, the three rules one after another, and what the functions that enumerate are told.
pub mod Enumeration
pub mod ThreeRules
pub mod Asking
pub mod Listing
