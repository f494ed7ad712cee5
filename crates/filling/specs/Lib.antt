-- What the functions that write a block's cells and equations tell each other.
pub mod Places
