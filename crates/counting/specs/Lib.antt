-- What a walk over the groups of a block tells, what its table of states holds, and the same of the code's structs.
pub mod Counting
pub mod States
pub mod Walks
