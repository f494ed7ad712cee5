-- The loop's invariant: the marked equations before place e, from the last to the first, stored from place k on, eight slots each, give what all of them
-- give from `at` on; and so do their remainders.
use Prim.Native.Nat.{ℕ}
use mathlib.Core.List.{[], ◌∷◌, reverse}
use lib.ListN.{get_or}
use Rattle.lists.specs.Lists.{pad}
use Rattle.lists.proofs.Storing.{Storing}
use Rattle.blocks.specs.BlockSets.{slot_cells}
use Rattle.chunks.specs.Splitting.{marked_places, places_shown}
use Rattle.chunks.proofs.put_equations.Given as goal

abbrev pub invariant-loop-e : goal.invariant-loop-e
invariant-loop-e l =
    Storing 8192 8 (λ (x : ℕ). pad 8 65535 (reverse (slot_cells l.set.slots x))) l.initial.slots l.at (places_shown l.marks l.set l.fn.bounds) l.slots l.k (marked_places l.marks l.set.slots l.fn.bounds.first_equation l.e)
    × Storing 1024 1 (λ (x : ℕ). get_or l.set.rests x 0 ∷ []) l.initial.rests l.at (places_shown l.marks l.set l.fn.bounds) l.rests l.k (marked_places l.marks l.set.slots l.fn.bounds.first_equation l.e)
