-- How blocks grow from sources, in the Rust's order.
pub mod Growth
