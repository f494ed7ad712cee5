-- What the calls that deduce answer to a line of numbers.
pub mod Deductions
