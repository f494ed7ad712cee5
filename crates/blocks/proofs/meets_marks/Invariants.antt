use mathlib.Core.Path.{◌≡◌}
use lib.ListN.{drop}
use Rattle.lists.specs.Lists.{any}
use Rattle.blocks.specs.Places.{marked}
use Rattle.blocks.proofs.meets_marks.Given as goal

abbrev pub invariant-loop-cell : goal.invariant-loop-cell
invariant-loop-cell l = any (marked l.marks) (drop l.cell-index l.cell-items) ≡ any (marked l.marks) l.cell-items
