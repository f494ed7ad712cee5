-- `grid::cells::count_showing` meets its contract. The loop's invariant: those found and those among the cells still to come are together all that show the value; at
-- most as many are found as have been looked at. Assumes nothing.
use Rattle.std.proofs.Common.{◌≡◌, ◌+◌, ◌≤◌, eqb, drop}
use Rattle.lists.specs.Lists.{count}
use Rattle.grid.proofs.cells.count_showing.Given as goal

abbrev pub invariant-loop-cell : goal.invariant-loop-cell
invariant-loop-cell l =
    (l.found + count (λ v. eqb v l.value) (drop l.cell-index l.cells) ≡ count (λ v. eqb v l.value) l.cells)
    × (l.found ≤ l.cell-index)
