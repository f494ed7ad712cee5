-- What a rule leaves fits into a block set where its blocks do, whether it meets a contradiction, which leaves none, or not. Rests on the laws of blocks made
-- smaller and of blocks split anew. Assumes nothing.
use mathlib.Core.Bool.{Bool, true, false, cond}
use mathlib.Core.List.{List, [], map}
use Rattle.blocks.specs.Blocks.{Block}
use Rattle.blocks.specs.BlockSets.{Small}
use Rattle.blocks.proofs.Behind.{none_fits}
use Rattle.chunks.specs.Chunks.{chunk_matrixes}
use Rattle.chunks.proofs.Sizes.{chunk_small}
use Rattle.direct.specs.Direct.{direct_left, direct}
use Rattle.direct.proofs.DirectLaws.{direct_blocks_left}
use Rattle.direct.proofs.SmallerBlocks.{direct_fits}

-- blocks split anew, or none
pub split_fits : (t : Bool) (bs : List Block) → Small bs → Small (cond t [] (chunk_matrixes bs))
split_fits true bs s = none_fits
split_fits false bs s = chunk_small bs s

-- the direct rule
pub direct_left_fits : (bs : List Block) → Small bs → Small (direct bs).left
direct_left_fits bs s = rw (direct_blocks_left bs) (split_fits (direct bs).contradiction (map direct_left bs) (direct_fits bs s))
