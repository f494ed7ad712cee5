use Prim.Native.Nat.{◌+◌, ◌*◌}
use mathlib.Core.Path.{◌≡◌}
use mathlib.Core.Bool.{false}
use lib.Dec.{eqb}
use Rattle.lists.specs.Lists.{any, without}
use Rattle.grid.specs.Cells.{cell_of}
use Rattle.grid.specs.Window.{neighbours}
use Rattle.grid.proofs.Walk.{rows_from, cells_from}
use Rattle.grid.proofs.window.Size.shown_in_window.Given as goal

abbrev pub invariant-loop-n : goal.invariant-loop-n
invariant-loop-n l =
    (l.found ≡ false)
    × (any (λ d. eqb (cell_of l.cells d) l.value) (without l.own (cells_from l.self.rows l.self.columns l.w.left l.w.right l.w.bottom l.m l.n))
    ≡ any (λ d. eqb (cell_of l.cells d) l.value) (neighbours l.self.edgeless l.self.rows l.self.columns (l.row * l.self.columns + l.column)))

abbrev pub invariant-outer : goal.invariant-outer
invariant-outer l =
    (l.found ≡ false)
    × (any (λ d. eqb (cell_of l.cells d) l.value) (without l.own (rows_from l.self.rows l.self.columns l.w.left l.w.right l.w.bottom l.m))
    ≡ any (λ d. eqb (cell_of l.cells d) l.value) (neighbours l.self.edgeless l.self.rows l.self.columns (l.row * l.self.columns + l.column)))
