use mathlib.Core.List.{[], ◌∷◌}
use Prim.Native.Nat.{ℕ}
use lib.ListN.{drop}
use Rattle.lists.proofs.Storing.{Storing}
use Rattle.enumeration.specs.Listing.{cells_in_group}
use Rattle.enumeration.proofs.enumerate.list_group.Given as goal

abbrev pub invariant-loop-cell : goal.invariant-loop-cell
invariant-loop-cell l =
    Storing 1024 1 (λ (x : ℕ). x ∷ []) l.initial.list.cells l.initial.list.count (cells_in_group l.group_of l.cells l.group) l.list.cells l.list.count
    (cells_in_group l.group_of (drop l.cell-index l.cells) l.group)
