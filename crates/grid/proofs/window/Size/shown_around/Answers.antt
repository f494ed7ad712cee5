-- `grid::window::Size::shown_around` meets its contract. The loop's invariant: a cell still to come shows the value exactly if one of the eight does. Rests on Inner.
-- Assumes nothing.
use Prim.Native.Nat.{ℕ, ◌+◌, ◌*◌, ◌<◌}
use mathlib.Core.Path.{◌≡◌, sym, ap, ◌∙◌, refl}
use mathlib.Core.Bool.{true}
use Rattle.lists.specs.Lists.{has}
use native.Mathlib.Omega.{arith}
use lib.Dec.{eqb}
use lib.ListN.{length, get_or}
use borrow.Author.Tests.{ne_eqb}
use Rattle.lists.proofs.Arrays.{drop_next}
use Rattle.lists.proofs.Members.{get_d_has}
use Rattle.grid.specs.Cells.{cell_of}
use Rattle.grid.specs.Window.{neighbours, eight_around}
use Rattle.grid.proofs.Neighbours.{neighbours_on}
use Rattle.grid.proofs.Inner.{inner_neighbours}
use Rattle.grid.proofs.window.Size.shown_around.Goals as goal

pub bounds-cells-neighbour : goal.bounds-cells-neighbour
bounds-cells-neighbour c =
    let size = c.args.self in
    let own = c.cell_number-own.result in
    let at : own ≡ c.args.row * size.columns + c.args.column = c.cell_number-own.ensures.0 in
    let is = rw (← at) at (inner_neighbours size.rows size.columns c.args.row c.args.column c.requires.on c.requires.inner.0 c.requires.inner.1 size.edgeless) in
    let items = eight_around size.columns own in
    let here : has (neighbours size.edgeless size.rows size.columns own) (get_or items c.loop-neighbour.neighbour-index 0) ≡ true =
    rw is (get_d_has items c.loop-neighbour.neighbour-index 0 c.loop-neighbour-test.true) in
    let on = neighbours_on size.edgeless size.rows size.columns own (get_or items c.loop-neighbour.neighbour-index 0) here in
    omega (arith, on, c.requires.board.whole)

pub loop-neighbour-preserved : goal.loop-neighbour-preserved
loop-neighbour-preserved c =
    let items = eight_around c.args.self.columns c.cell_number-own.result in
    let next = drop_next {A = ℕ} items c.loop-neighbour.neighbour-index 0 (get_or items c.loop-neighbour.neighbour-index 0) c.loop-neighbour-test.true refl in
    let inv = rw next at c.loop-neighbour.invariant in
    rw (ne_eqb _ _ c.if-cells-neighbour.false) at inv
