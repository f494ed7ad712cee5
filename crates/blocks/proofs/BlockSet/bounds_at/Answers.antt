-- `blocks::BlockSet::bounds_at` meets its contract: each number is what the function that it calls tells. Assumes nothing.
use mathlib.Core.Path.{refl}
use Rattle.blocks.proofs.BlockSet.bounds_at.Goals as goal

pub returns : goal.returns
returns c = rw (c.begin_at.ensures, c.wide.ensures, c.begin_at-2.ensures, c.wide-2.ensures) refl
