-- What is shown of an answer in a buffer that may be too short for it.
pub mod Shown
