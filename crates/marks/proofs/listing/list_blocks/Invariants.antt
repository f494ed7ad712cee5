use Prim.Native.Nat.{ℕ}
use mathlib.Core.List.{[], ◌∷◌}
use lib.ListN.{replicate}
use Rattle.lists.proofs.Storing.{Storing}
use Rattle.marks.specs.Marked.{all_with}
use Rattle.marks.proofs.listing.list_blocks.Given as goal

abbrev pub invariant-loop-b : goal.invariant-loop-b
invariant-loop-b l = Storing 1024 1 (λ (x : ℕ). x ∷ []) (replicate 1024 0) 0 (all_with l.marks l.cells l.cell_ends l.blocks) l.out l.k (all_with l.marks l.cells l.cell_ends l.b)
