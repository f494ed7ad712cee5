-- The loop's invariant: the marks are those of the cells passed.
use mathlib.Core.Path.{◌≡◌}
use lib.ListN.{length, take}
use Rattle.blocks.specs.Places.{Marks}
use Rattle.blocks.proofs.marks_of.Given as goal

abbrev pub invariant-loop-cell : goal.invariant-loop-cell
invariant-loop-cell l = (length l.marks ≡ 1024) × Marks l.marks (take l.cell-index l.cell-items)
