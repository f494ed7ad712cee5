-- What C and Rust see of the calls.
pub mod Returned
