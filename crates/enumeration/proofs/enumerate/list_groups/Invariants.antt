use mathlib.Core.List.{[], ◌∷◌}
use Prim.Native.Nat.{ℕ}
use Rattle.lists.proofs.Storing.{Storing}
use Rattle.enumeration.specs.Listing.{unmarked_groups}
use Rattle.enumeration.proofs.enumerate.list_groups.Given as goal

abbrev pub invariant-loop-g : goal.invariant-loop-g
invariant-loop-g l =
    Storing 1024 1 (λ (x : ℕ). x ∷ []) l.initial.list.cells l.initial.list.count (unmarked_groups l.grouped.group_of l.marks l.cells 0 l.grouped.groups)
    l.list.cells l.list.count (unmarked_groups l.grouped.group_of l.marks l.cells l.g l.grouped.groups)
