use Rattle.std.proofs.Common.{◌≡◌, ◌+◌, ◌≤◌, eqb, drop}
use Rattle.lists.specs.Lists.{count}
use Rattle.grid.specs.Cells.{cell_of}
use Rattle.grid.proofs.window.Size.count_beside.Given as goal

abbrev pub invariant-loop-neighbour : goal.invariant-loop-neighbour
invariant-loop-neighbour l =
    (l.found + count (λ d. eqb (cell_of l.cells d) l.value) (drop l.neighbour-index l.neighbour-items) ≡ count (λ d. eqb (cell_of l.cells d) l.value) l.neighbour-items)
    × (l.found ≤ l.neighbour-index)
