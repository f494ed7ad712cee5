-- What stands in a line's buffer.
pub mod Lines
-- What a step takes of a part.
pub mod Parts
