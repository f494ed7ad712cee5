use Prim.Native.Nat.{◌+◌, ◌≤◌}
use mathlib.Core.Path.{◌≡◌}
use Rattle.grid.specs.Window.{neighbours_on}
use Rattle.frontier.specs.Frontier.{inside_cells}
use Rattle.frontier.proofs.CountTurns.{inside_from}
use Rattle.frontier.proofs.counts.inside_cells.Given as goal

abbrev pub invariant-loop-c : goal.invariant-loop-c
invariant-loop-c l =
    (l.count + inside_from (neighbours_on l.size) l.position l.c ≡ inside_cells (neighbours_on l.size) l.position) × (l.count ≤ l.c)
