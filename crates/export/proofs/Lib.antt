-- The laws of what C and Rust see of a call.
pub mod Returning
pub mod StoredCounts
pub mod CountedBbbv
pub mod CountedVerdict
pub mod CountedCalls
