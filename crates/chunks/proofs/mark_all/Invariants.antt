-- The loop's invariant, for each list of which the marks were those at the start: the marks are those of a list to which the cells still to come are to be
-- added, and without a new mark it is the list at the start.
use mathlib.Core.Path.{◌≡◌}
use mathlib.Core.List.{List}
use Prim.Native.Nat.{ℕ}
use lib.ListN.{length, drop}
use Rattle.lists.specs.Lists.{add_new}
use Rattle.blocks.specs.Places.{Marks}
use Rattle.chunks.proofs.Marking.{Towards}
use Rattle.chunks.proofs.mark_all.Given as goal

abbrev pub invariant-loop-cell : goal.invariant-loop-cell
invariant-loop-cell l =
    (length l.marks ≡ 1024)
    × ((k : List ℕ) → Marks l.initial.marks k → Towards (λ (x : List ℕ). add_new x (drop l.cell-index l.cell-items)) (add_new k l.cell-items) k l.marks l.new)
