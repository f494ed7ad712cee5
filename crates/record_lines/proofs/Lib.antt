-- Laws of the lines that answer board records.
pub mod LineWritten
pub mod Answering
pub mod LineRoom
