-- The words about lists and tests that the other crates' definitions use.
pub mod Lists
