use Prim.Native.Nat.{ℕ}
use mathlib.Core.List.{[], ◌∷◌}
use Rattle.lists.proofs.Storing.{Storing}
use Rattle.marks.specs.Marked.{cells_with}
use Rattle.marks.proofs.listing.list_cells.Given as goal

abbrev pub invariant-loop-i : goal.invariant-loop-i
invariant-loop-i l = Storing 1024 1 (λ (x : ℕ). x ∷ []) l.initial.out l.at (cells_with l.marks l.mark l.cells l.first l.end) l.out l.k (cells_with l.marks l.mark l.cells l.i l.end)
