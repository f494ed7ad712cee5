use mathlib.Core.Path.{◌≡◌}
use lib.ListN.{take}
use Rattle.lists.specs.Lists.{count}
use Rattle.blocks.specs.Places.{marked}
use Rattle.marks.proofs.count_marked.Given as goal

abbrev pub invariant-loop-cell : goal.invariant-loop-cell
invariant-loop-cell l = l.found ≡ count (marked l.marks) (take l.cell-index l.cell-items)
