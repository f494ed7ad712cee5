use Rattle.std.proofs.Common.{eqb, drop}
use Rattle.lists.specs.Lists.{keep}
use Rattle.grid.specs.Cells.{cell_of}
use Rattle.lists.proofs.Collected.{Collected}
use Rattle.grid.proofs.window.Size.neighbours_showing.Given as goal

abbrev pub invariant-loop-cell : goal.invariant-loop-cell
invariant-loop-cell l =
    Collected 8 l.kept.cells l.kept.len
    (keep (λ d. eqb (cell_of l.cells d) l.value) (drop l.cell-index l.cell-items))
    (keep (λ d. eqb (cell_of l.cells d) l.value) l.cell-items)
