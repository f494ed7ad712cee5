-- `direct::direct::sweep_safe` meets its contract. The loop's invariant: what is listed, with what the first e equations still add, is the whole list of
-- safe cells, where every equation is asked whether its mines are all known. Rests on the laws of `Sweeping`. Assumes nothing.
use Prim.Native.Nat.{◌≤◌}
use mathlib.Core.Path.{sym}
use native.Mathlib.Omega.{arith}
use Rattle.blocks.specs.Places.{OnBoard, equations_from}
use Rattle.blocks.proofs.Between.{listed_on_board}
use Rattle.direct.proofs.Sweeps.{sweeping_end, sweeping_given, sweeping_passed, equations_back, equations_before, safe_asked_of_all, counted_few, asked_none_left, asked_some_left, added_others}
use Rattle.direct.proofs.direct.sweep_safe.Goals as goal
use Rattle.direct.proofs.direct.sweep_safe.Goals.{After-count_marked, After-slots_at-list}

pub loop-e-init : goal.loop-e-init
loop-e-init c = record { listed = c.requires.listed; left = sym (safe_asked_of_all (equations_from c.args.slots.now c.args.rests.now 0 c.args.equations)) }

pub slots_at-list-requires : goal.slots_at-list-requires
slots_at-list-requires c = (c.requires.slots.whole, omega (arith, c.requires.slots.few, c.loop-e-test.true))

-- the equation's cells are places of the marks
on_board : (c : After-slots_at-list) → OnBoard c.slots_at-list.result
on_board c =
    listed_on_board _ c.args.slots.now _ c.slots_at-list.ensures c.args.equations c.requires.slots (omega (arith, c.loop-e-test.true))

pub bounds-rests-e : goal.bounds-rests-e
bounds-rests-e c = omega (arith, c.requires.slots.few)

pub count_marked-requires : goal.count_marked-requires
count_marked-requires c = on_board (goal.at.count_marked-requires c).After-slots_at-list

-- few of them are marked
few_marked : (c : After-count_marked) → c.count_marked.result ≤ 8
few_marked c = counted_few c.slots_at-list.result c.args.mines.now _ (on_board (goal.at.After-count_marked c).After-slots_at-list) c.count_marked.ensures

pub overflow_add-count_marked : goal.overflow_add-count_marked
overflow_add-count_marked c = omega (arith, few_marked c)

pub overflow_cast-count_marked : goal.overflow_cast-count_marked
overflow_cast-count_marked c = omega (arith, few_marked c)

pub add_unmarked-n-requires : goal.add_unmarked-n-requires
add_unmarked-n-requires c = record { on_board = on_board (goal.at.add_unmarked-n-requires c).After-slots_at-list; listed = c.loop-e.invariant.listed }

pub loop-e-preserved-then-rests-e : goal.loop-e-preserved-then-rests-e
loop-e-preserved-then-rests-e c =
    let loop = c.loop-e in
    let at = c.slots_at-list in
    let count = c.count_marked in
    sweeping_given loop.invariant _ _
    (equations_back c.args.slots.now c.args.rests.now loop.e c.loop-e-test.true)
    (asked_none_left at.result c.args.slots.now c.args.rests.now _ at.ensures c.args.mines.now _ c.requires.marks _ count.ensures c.if-rests-e.true)
    c.add_unmarked-n.ensures.still_listed
    (added_others at.result c.args.slots.now c.args.rests.now _ at.ensures c.args.mines.now _ c.requires.marks _ _ c.add_unmarked-n.ensures.out_after)

pub loop-e-preserved : goal.loop-e-preserved
loop-e-preserved c =
    let loop = c.loop-e in
    let at = c.slots_at-list in
    let count = c.count_marked in
    sweeping_passed loop.invariant _ _
    (equations_back c.args.slots.now c.args.rests.now loop.e c.loop-e-test.true)
    (asked_some_left at.result c.args.slots.now c.args.rests.now _ at.ensures c.args.mines.now _ c.requires.marks _ count.ensures c.if-rests-e.false)

pub returns : goal.returns
returns c =
    let loop = c.loop-e in
    let both = sweeping_end loop.invariant (equations_before c.args.slots.now c.args.rests.now loop.e (omega (arith, c.loop-e-test.false))) in
    record { still_listed = both.0; out_after = both.1 }
