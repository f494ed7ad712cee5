use mathlib.Core.Bool.{Bool, ◌&&◌}
use mathlib.Core.List.{List}
use Prim.Native.Nat.{ℕ}
use lib.Dec.{eqb}
use lib.ListN.{get_or}
use Rattle.fitting.specs.Equations.{is_closed}
use Rattle.total_rule.proofs.ToldCells.{Listed}
use Rattle.total_rule.proofs.cells.list_never.Given as goal

-- a closed cell that no layout has so
abbrev pub never : List ℕ → List ℕ → ℕ → Bool
never position told c = is_closed position c && eqb (get_or told c 0) 0

abbrev pub invariant-loop-c : goal.invariant-loop-c
invariant-loop-c l = Listed (never l.position l.told) l.cells l.count l.c
