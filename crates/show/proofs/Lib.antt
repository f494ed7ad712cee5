-- The laws of texts of answers.
pub mod Parts
