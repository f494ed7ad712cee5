-- `grid::window::walk_neighbours` meets its contract. The invariant of both loops: what is collected so far and what the walk has still to visit, without the
-- cell itself, are the cell's neighbours. These are at most eight, so there is room for each. The measures are the rows and the columns left.
-- Rests on the laws of `Walk` and `Collected`. Assumes nothing.
use Prim.Native.Nat.{◌+◌, ◌*◌, ◌<◌}
use mathlib.Core.Path.{◌≡◌, ◌∙◌}
use native.Mathlib.Omega.{arith}
use Rattle.grid.specs.Window.{folded}
use Rattle.grid.proofs.Neighbours.{neighbours_few}
use Rattle.grid.proofs.Walk.{enter, leave, done, pass_other, pass_own, walk_neighbours}
use Rattle.lists.proofs.Collected.{collected_none, collected_room, collected_push, collected_all}
use Rattle.grid.proofs.window.Size.walk_neighbours.Goals as goal
use Rattle.grid.proofs.window.Size.walk_neighbours.Goals.{After-cell_number-c, Then-c-own, else-c-own, then-c-own}

pub loop-m-init : goal.loop-m-init
loop-m-init c =
    let on = c.requires.on in
    rw (walk_neighbours c.args.self.edgeless _ _ _ _ _ _ on c.window_of-w.ensures.is c.cell_number-own.ensures.0) (rw c.empty-near.ensures (collected_none 8 _))

pub loop-n-init : goal.loop-n-init
loop-n-init c = let h = c.loop-m-test.true in rw enter at c.loop-m.invariant

-- a line of the window is below twice the size
pub fold-near_row-requires : goal.fold-near_row-requires
fold-near_row-requires c = omega (arith, c.loop-m-test.true, c.window_of-w.ensures.below)

pub fold-requires : goal.fold-requires
fold-requires c = omega (arith, c.loop-n-test.true, c.window_of-w.ensures.beside)

-- the next cell, by its folded row and column
here : (c : After-cell_number-c)
    → c.cell_number-c.result ≡ folded c.args.self.rows c.loop-m.m
    * c.args.self.columns
    + folded c.args.self.columns c.loop-n.n
here c = c.cell_number-c.ensures.0 ∙ rw (c.fold-near_row.ensures.0, c.fold.ensures.0)

-- there is room for the next cell
room : (c : Then-c-own) → c.loop-n.near.len < 8
room c =
    let before = c.loop-n-test.true in
    let at = here (goal.at.Then-c-own c).After-cell_number-c in
    let other = c.if-c-own.true in
    collected_room
    (rw (pass_other c.cell_number-c.result) at c.loop-n.invariant)
    (neighbours_few _ _ _ _)

pub push-requires : goal.push-requires
push-requires c = room (goal.at.push-requires c).Then-c-own

pub loop-n-preserved : goal.loop-n-preserved
loop-n-preserved c =
    let before = c.loop-n-test.true in
    let at = here (goal.at.loop-n-preserved c).After-cell_number-c in
    let few = neighbours_few _ _ _ _ in
    let inv = c.loop-n.invariant in
    elim c.if-c-own.branch [
      | then-c-own w ↦ let other = w.if-c-own.true in rw (w.near-is, w.push.ensures) (collected_push (rw (pass_other c.cell_number-c.result) at inv) few)
      | else-c-own w ↦ let own = w.if-c-own.false in rw w.near-is (rw (pass_own c.cell_number-c.result) at inv)
    ]

pub loop-m-preserved : goal.loop-m-preserved
loop-m-preserved c = let h = c.loop-n-test.false in rw leave at c.loop-n.invariant

pub returns : goal.returns
returns c =
    let h = c.loop-m-test.false in
    let all = collected_all (rw done at c.loop-m.invariant) in
    rw (all.0, all.1)
