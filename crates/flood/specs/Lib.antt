-- The cells that a flood reaches, and the stack with which the code opens them. That the position becomes `open_cells` of fitting is the contract.
pub mod Reached
pub mod Stack
