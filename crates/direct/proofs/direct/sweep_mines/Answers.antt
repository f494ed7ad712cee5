-- `direct::direct::sweep_mines` meets its contract. The loop's invariant: what is listed, with what the first e equations still add, is the whole list of
-- mines. Rests on the laws of `Sweeping`. Assumes nothing.
use mathlib.Core.Path.{refl}
use native.Mathlib.Omega.{arith}
use Rattle.blocks.specs.Places.{OnBoard}
use Rattle.blocks.proofs.Between.{listed_on_board}
use Rattle.direct.specs.Direct.{sure_mines}
use Rattle.direct.proofs.Sweeps.{sweeping_end, sweeping_given, sweeping_passed, equations_back, equations_before, asked_full, asked_not_full, added_all}
use Rattle.direct.proofs.direct.sweep_mines.Goals as goal
use Rattle.direct.proofs.direct.sweep_mines.Goals.{After-slots_at-list}

pub loop-e-init : goal.loop-e-init
unfolding sure_mines
loop-e-init c = record { listed = c.requires.listed; left = refl }

pub slots_at-list-requires : goal.slots_at-list-requires
slots_at-list-requires c = (c.requires.slots.whole, omega (arith, c.requires.slots.few, c.loop-e-test.true))

-- the equation's cells are places of the marks
on_board : (c : After-slots_at-list) → OnBoard c.slots_at-list.result
on_board c =
    listed_on_board _ c.args.slots.now _ c.slots_at-list.ensures c.args.equations c.requires.slots (omega (arith, c.loop-e-test.true))

pub bounds-rests-e : goal.bounds-rests-e
bounds-rests-e c = omega (arith, c.requires.slots.few)

pub overflow_add-list : goal.overflow_add-list
overflow_add-list c = omega (arith, (on_board (goal.at.overflow_add-list c).After-slots_at-list).few)

pub overflow_cast-list : goal.overflow_cast-list
overflow_cast-list c = omega (arith, (on_board (goal.at.overflow_cast-list c).After-slots_at-list).few)

pub add_unmarked-n-requires : goal.add_unmarked-n-requires
add_unmarked-n-requires c = record { on_board = on_board (goal.at.add_unmarked-n-requires c).After-slots_at-list; listed = c.loop-e.invariant.listed }

pub loop-e-preserved-then-rests-e : goal.loop-e-preserved-then-rests-e
loop-e-preserved-then-rests-e c =
    let loop = c.loop-e in
    let at = c.slots_at-list in
    sweeping_given loop.invariant _ _
    (equations_back c.args.slots.now c.args.rests.now loop.e c.loop-e-test.true)
    (asked_full at.result c.args.slots.now c.args.rests.now _ at.ensures c.if-rests-e.true)
    c.add_unmarked-n.ensures.still_listed
    (added_all at.result c.args.slots.now c.args.rests.now _ at.ensures c.args.safe.now _ _ c.requires.marks c.add_unmarked-n.ensures.out_after)

pub loop-e-preserved : goal.loop-e-preserved
loop-e-preserved c =
    let loop = c.loop-e in
    let at = c.slots_at-list in
    sweeping_passed loop.invariant _ _
    (equations_back c.args.slots.now c.args.rests.now loop.e c.loop-e-test.true)
    (asked_not_full at.result c.args.slots.now c.args.rests.now _ at.ensures c.if-rests-e.false)

pub returns : goal.returns
returns c =
    let loop = c.loop-e in
    let both = sweeping_end loop.invariant (equations_before c.args.slots.now c.args.rests.now loop.e (omega (arith, c.loop-e-test.false))) in
    record { still_listed = both.0; out_after = both.1 }
