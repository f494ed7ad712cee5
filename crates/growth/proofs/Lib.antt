-- The laws of growth.

-- its definition: what is removed, a block that grows, and how the blocks part the sources
pub mod Removal
pub mod GrownBlocks
pub mod Partition
-- how the code does it: marks tell which sources share a closed cell, those are taken out of the sources left, and the block grows
pub mod Marks
pub mod Removals
pub mod Growing
