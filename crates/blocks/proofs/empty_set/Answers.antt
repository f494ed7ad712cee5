-- `blocks::empty_set` meets its contract: arrays of fillers are the arrays of no blocks, since a list padded from no elements is all filler. Both sides
-- compute to the same arrays. Assumes nothing.
use mathlib.Core.Path.{refl}
use Rattle.blocks.specs.BlockSets.{block_set}
use Rattle.blocks.proofs.empty_set.Goals as goal

pub returns : goal.returns
unfolding block_set
returns c = refl
