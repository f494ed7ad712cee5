use Prim.Native.Nat.{◌≤◌}
use Rattle.grid.specs.Window.{neighbours_on}
use Rattle.bbbv.proofs.Flooded.{FloodedTo}
use Rattle.bbbv.proofs.count_openings.Given as goal

abbrev pub invariant-loop-c : goal.invariant-loop-c
invariant-loop-c l = FloodedTo (neighbours_on l.size) l.cells l.c l.position l.found × (l.found ≤ l.c)
