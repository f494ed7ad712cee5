-- The laws of the frontier.

-- its definition: what a block is, and what the blocks together are
pub mod BlockLaws
pub mod Coverage
-- what a layout that fits, and a solution of a block, say of each other
pub mod Fitting
-- its blocks have what the code that groups a block's cells asks for
pub mod CombinableBlocks
-- all blocks solved at once
pub mod JoinedBlocks
-- the two counts, a block that is written, and one block more
pub mod CountTurns
pub mod WrittenBlock
pub mod BlocksSoFar
-- the frontier of an accepted position, read as a block set
pub mod ReadFrontier
