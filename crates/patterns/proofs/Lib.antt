-- The laws of the board in its frame and in rows, of the shapes, of their tables and of the corners, and boards worked out.
pub mod ListTests
pub mod FramedBoard
pub mod Places
pub mod FilledRows
pub mod ShapeWords
pub mod TableWalk
pub mod Corners
pub mod Answers
pub mod Boards
