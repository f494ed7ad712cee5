-- `grid::window::Size::shown_in_window` meets its contract. The invariant of both loops: nothing is found yet, and a cell that the walk has still to visit shows the
-- value, the cell itself left out, exactly when a neighbour does. Where the search stops, the next cell of the walk is that neighbour. The measures are the rows
-- and the columns left. Rests on the laws of `Walk`. Assumes nothing.
use Prim.Native.Nat.{◌+◌, ◌*◌}
use mathlib.Core.Path.{◌≡◌, refl, ◌∙◌}
use native.Mathlib.Omega.{arith}
use borrow.Author.Rules.{rules}
use borrow.Author.Tests.{eq-eqb, ne_eqb}
use Rattle.grid.specs.Window.{folded}
use Rattle.grid.proofs.Walk.{enter, leave, done, pass_other, pass_own, walk_neighbours}
use Rattle.grid.proofs.window.Size.shown_in_window.Goals as goal
use Rattle.grid.proofs.window.Size.shown_in_window.Goals.{After-cell_number-cell, else-cell-own, then-cell-own+else-cells-cell}

pub outer-init : goal.outer-init
outer-init c =
    let on = c.requires.on in
    (refl, rw (walk_neighbours c.args.self.edgeless _ _ _ _ _ _ on c.window_of-w.ensures.is c.cell_number-own.ensures.0))

pub loop-n-init : goal.loop-n-init
loop-n-init c = let h = c.outer-test.true in (search rules, rw enter at c.outer.invariant.1)

-- a line of the window is below twice the size
pub fold-near_row-requires : goal.fold-near_row-requires
fold-near_row-requires c = omega (arith, c.outer-test.true, c.window_of-w.ensures.below)

pub fold-requires : goal.fold-requires
fold-requires c = omega (arith, c.loop-n-test.true, c.window_of-w.ensures.beside)

-- the next cell, by its folded row and column
here : (c : After-cell_number-cell)
    → c.cell_number-cell.result ≡ folded c.args.self.rows c.outer.m
    * c.args.self.columns
    + folded c.args.self.columns c.loop-n.n
here c = c.cell_number-cell.ensures.0 ∙ rw (c.fold-near_row.ensures.0, c.fold.ensures.0)

pub loop-n-preserved : goal.loop-n-preserved
loop-n-preserved c =
    let before = c.loop-n-test.true in
    let at = here (goal.at.loop-n-preserved c).After-cell_number-cell in
    let inv = c.loop-n.invariant.1 in (
      search rules,
      elim c.if-cell-own.branch [
        | then-cell-own+else-cells-cell w ↦ let other = w.if-cell-own.true in rw (ne_eqb _ _ w.if-cells-cell.false) at (rw (pass_other c.cell_number-cell.result) at inv)
        | else-cell-own w ↦ let own = w.if-cell-own.false in rw (pass_own c.cell_number-cell.result) at inv
      ],
    )

pub outer-preserved : goal.outer-preserved
outer-preserved c = let h = c.loop-n-test.false in (search rules, rw leave at c.loop-n.invariant.1)

pub returns-after-outer : goal.returns-after-outer
returns-after-outer c = let h = c.outer-test.false in c.outer.invariant.0 ∙ (rw done at c.outer.invariant.1)

pub returns-then-cells-cell : goal.returns-then-cells-cell
returns-then-cells-cell c =
    let before = c.loop-n-test.true in
    let at = here (goal.at.returns-then-cells-cell c).After-cell_number-cell in
    let other = c.if-cell-own.true in
    let inv = rw (pass_other c.cell_number-cell.result) at c.loop-n.invariant.1 in
    rw (eq-eqb _ _ c.if-cells-cell.true) at inv
