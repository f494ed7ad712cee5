use Prim.Native.Nat.{◌-◌, ◌≤◌}
use lib.ListN.{take}
use Rattle.lists.specs.Lists.{add_new}
use Rattle.direct.proofs.ListedCells.{back_unmarked, Adding}
use Rattle.direct.proofs.direct.add_unmarked.Given as goal

abbrev pub invariant-loop-i : goal.invariant-loop-i
invariant-loop-i l =
    (l.i ≤ l.len) × Adding l.there l.cells (add_new (take l.at l.initial.out) (back_unmarked l.there l.cells l.len)) l.marks l.out l.n (l.len - l.i)
