-- What each call answers to a line of numbers, as a line of text.
pub mod Calls
