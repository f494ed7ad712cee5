-- The loop's invariant: what is done, with the marked cells still to come, is what was done with all the marked cells.
use mathlib.Core.Path.{◌≡◌}
use Prim.Native.Nat.{ℕ}
use lib.ListN.{drop}
use Rattle.chunks.proofs.Marking.{done_with}
use Rattle.chunks.proofs.add_done.Given as goal

abbrev pub invariant-loop-cell : goal.invariant-loop-cell
invariant-loop-cell l = (d : ℕ) → done_with l.done l.marks (drop l.cell-index l.cells) d ≡ done_with l.initial.done l.marks l.cells d
