-- The loop's invariant: the marked cells still to come, from the last to the first, stored from place k on, give what all of them give from `at` on.
use Prim.Native.Nat.{ℕ}
use mathlib.Core.List.{[], ◌∷◌, reverse}
use lib.ListN.{length, drop}
use Rattle.lists.specs.Lists.{keep}
use Rattle.lists.proofs.Storing.{Storing}
use Rattle.blocks.specs.Places.{marked}
use Rattle.chunks.proofs.put_cells.Given as goal

abbrev pub invariant-loop-cell : goal.invariant-loop-cell
invariant-loop-cell l =
    (goal.iterator-loop-cell).can_next l.cell-iterator
    × (goal.iterator-loop-cell).is_finite l.cell-iterator
    × Storing 1024 1 (λ (x : ℕ). x ∷ []) l.initial.out l.at (reverse (keep (marked l.marks) l.cells)) l.out l.k (keep (marked l.marks) (drop (length l.yielded) (reverse l.cells)))
