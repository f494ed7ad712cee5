use Rattle.std.proofs.Common.{◌≡◌, ◌+◌, ◌*◌, eqb, drop}
use Rattle.lists.specs.Lists.{any}
use Rattle.grid.specs.Cells.{cell_of}
use Rattle.grid.specs.Window.{eight_around}
use Rattle.grid.proofs.window.Size.shown_around.Given as goal

abbrev pub invariant-loop-neighbour : goal.invariant-loop-neighbour
invariant-loop-neighbour l =
    any (λ d. eqb (cell_of l.cells d) l.value) (drop l.neighbour-index l.neighbour-items)
    ≡ any (λ d. eqb (cell_of l.cells d) l.value) (eight_around l.fn.self.columns (l.row * l.fn.self.columns + l.column))
