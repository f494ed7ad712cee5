-- The laws of the fourth rule, in reading order.
-- arrays filled place by place
pub mod ToldCells
-- block after block
pub mod ToldBlocks
-- allowed counts, in arrays and as defined
pub mod AllowedRows
pub mod CountedBlocks
-- the cells that are the same in every layout of the total
pub mod FoundByTotal
pub mod RuleOnBoard
