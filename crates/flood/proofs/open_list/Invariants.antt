use mathlib.Core.Path.{◌≡◌}
use lib.ListN.{drop}
use Rattle.flood.specs.Stack.{held, open_each, Room}
use Rattle.flood.proofs.open_list.Given as goal

abbrev pub invariant-loop-cell : goal.invariant-loop-cell
invariant-loop-cell l =
    Room l.board l.position l.stack l.n
    × (open_each l.board (held l.position l.stack l.n) (drop l.cell-index l.cells)
    ≡ open_each l.board (held l.initial.position l.initial.stack l.initial.n) l.cells)
