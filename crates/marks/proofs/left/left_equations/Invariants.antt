use Prim.Native.Nat.{ℕ}
use mathlib.Core.List.{[], ◌∷◌}
use Rattle.lists.proofs.Storing.{Storing}
use Rattle.blocks.specs.BlockSets.{slots_of}
use Rattle.marks.proofs.LeftEquations.{left_at, left_places}
use Rattle.marks.proofs.left.left_equations.Given as goal

abbrev pub invariant-loop-e : goal.invariant-loop-e
invariant-loop-e l =
    Storing 8192 8 (λ (x : ℕ). slots_of (left_at l.known.subtracted l.known.mines l.known.cells l.set.slots l.set.rests x)) l.initial.out_slots l.at (left_places l.known.subtracted l.known.mines l.known.cells l.set.slots l.set.rests l.first l.end) l.out_slots l.k (left_places l.known.subtracted l.known.mines l.known.cells l.set.slots l.set.rests l.e l.end)
    × Storing 1024 1 (λ (x : ℕ). (left_at l.known.subtracted l.known.mines l.known.cells l.set.slots l.set.rests x).rest ∷ []) l.initial.out_rests l.at (left_places l.known.subtracted l.known.mines l.known.cells l.set.slots l.set.rests l.first l.end) l.out_rests l.k (left_places l.known.subtracted l.known.mines l.known.cells l.set.slots l.set.rests l.e l.end)
