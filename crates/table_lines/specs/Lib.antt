-- What cal_all_solution answers to a line of numbers.
pub mod Tables
