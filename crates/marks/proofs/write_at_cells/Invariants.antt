use mathlib.Core.Path.{◌≡◌}
use lib.ListN.{length, drop}
use Rattle.marks.specs.Written.{written}
use Rattle.marks.proofs.write_at_cells.Given as goal

abbrev pub invariant-loop-cell : goal.invariant-loop-cell
invariant-loop-cell l =
    (length l.position ≡ length l.initial.position)
    × (written l.value (drop l.cell-index l.cells) l.position ≡ written l.value l.cells l.initial.position)
