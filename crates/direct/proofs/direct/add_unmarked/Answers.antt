-- `direct::direct::add_unmarked` meets its contract. The loop's invariant: what is listed, with what the cells not yet met, the first len - i, still add, is
-- the whole. The measure is their number. Rests on the laws of `Adding`. Assumes nothing.
use Prim.Native.Nat.{◌+◌, ◌-◌, ◌≤◌, ◌<◌}
use mathlib.Core.Path.{◌≡◌, refl}
use native.Mathlib.Omega.{arith}
use lib.ListN.{length}
use borrow.Author.Rules.{rules}
use borrow.Author.Tests.{eq-eqb, ne_eqb}
use Rattle.blocks.proofs.MarkLaws.{list_below}
use Rattle.direct.proofs.ListedCells.{listed_room, adding_end, adding_known, adding_old, adding_new}
use Rattle.direct.proofs.direct.add_unmarked.Goals as goal
use Rattle.direct.proofs.direct.add_unmarked.Goals.{After-from_last-k, After-wide-c, Then-marks-c-ne1, else-there-c-ne1, then-there-c-ne1+else-marks-c-ne1, then-there-c-ne1+then-marks-c-ne1}

pub loop-i-init : goal.loop-i-init
loop-i-init c =
    let len = c.args.list.len in
    let all : len - 0 ≡ len = omega arith in
    (search rules, rw all (record { listed = c.requires.listed; left = refl }))

-- the place that is read is one of the list
inside : (c : After-from_last-k) → c.from_last-k.result < c.args.list.len
inside c = omega (arith, c.from_last-k.ensures, c.loop-i-test.true)

pub offset_bounds-cells-k : goal.offset_bounds-cells-k
offset_bounds-cells-k c = omega (arith, inside c, c.requires.on_board.few)

pub bounds-cells-k : goal.bounds-cells-k
bounds-cells-k c = omega (arith, inside c, c.requires.on_board.few)

-- and the cell that stands there a place of the marks
below : (c : After-wide-c) → c.wide-c.result < 1024
below c =
    let eight : length c.args.list.cells ≡ 8 = search rules in
    list_below c.args.list c.requires.on_board eight _ _ (inside (goal.at.After-wide-c c).After-from_last-k) c.wide-c.ensures

pub bounds-there-c : goal.bounds-there-c
bounds-there-c c = below (goal.at.bounds-there-c c).After-wide-c

pub bounds-marks-c : goal.bounds-marks-c
bounds-marks-c c = below (goal.at.bounds-marks-c c).After-wide-c

pub bounds-marks-c-then-marks-c-ne1 : goal.bounds-marks-c-then-marks-c-ne1
bounds-marks-c-then-marks-c-ne1 c = below (goal.at.bounds-marks-c-then-marks-c-ne1 c).After-wide-c

pub offset_bounds-cells-k-then-marks-c-ne1 : goal.offset_bounds-cells-k-then-marks-c-ne1
offset_bounds-cells-k-then-marks-c-ne1 c = omega (arith, inside (goal.at.offset_bounds-cells-k-then-marks-c-ne1 c).After-from_last-k, c.requires.on_board.few)

pub bounds-cells-k-then-marks-c-ne1 : goal.bounds-cells-k-then-marks-c-ne1
bounds-cells-k-then-marks-c-ne1 c = omega (arith, inside (goal.at.bounds-cells-k-then-marks-c-ne1 c).After-from_last-k, c.requires.on_board.few)

-- and, as it is new, it has room
room : (c : Then-marks-c-ne1) → c.loop-i.n < 1024
room c =
    let loop = c.loop-i in
    listed_room loop.marks loop.out loop.n loop.invariant.1.listed _ (below (goal.at.Then-marks-c-ne1 c).After-wide-c) (ne_eqb _ _ c.if-marks-c-ne1.true)

pub offset_bounds-out-n : goal.offset_bounds-out-n
offset_bounds-out-n c = omega (arith, room c)

pub bounds-out-n : goal.bounds-out-n
bounds-out-n c = room (goal.at.bounds-out-n c).Then-marks-c-ne1

pub overflow_add-n : goal.overflow_add-n
overflow_add-n c = omega (arith, room (goal.at.overflow_add-n c).Then-marks-c-ne1)

pub loop-i-preserved : goal.loop-i-preserved
loop-i-preserved c =
    let test = c.loop-i-test.true in
    let loop = c.loop-i in
    let len = c.args.list.len in
    let j = c.from_last-k.result in
    let eight : length c.args.list.cells ≡ 8 = search rules in
    let few : len - loop.i ≤ length c.args.list.cells = omega (arith, c.requires.on_board.few) in
    let last : len - loop.i ≡ j + 1 = omega (arith, c.from_last-k.ensures, test) in
    let next : len - (loop.i + 1) ≡ j = omega (arith, c.from_last-k.ensures) in (
      omega (arith, test),
      elim c.if-there-c-ne1.branch [
        | then-there-c-ne1+then-marks-c-ne1 w ↦ rw (w.marks-is, w.out-is, w.n-is, next)
            (adding_new c.args.there.now c.args.list.cells _ loop.marks loop.out loop.n (len - loop.i) loop.invariant.1
            j last few c.wide-c.result c.wide-c.ensures (below (goal.at.loop-i-preserved c).After-wide-c) (ne_eqb _ _ w.if-there-c-ne1.true) (ne_eqb _ _ w.if-marks-c-ne1.true))
        | then-there-c-ne1+else-marks-c-ne1 w ↦ rw (w.marks-is, w.out-is, w.n-is, next)
            (adding_old c.args.there.now c.args.list.cells _ loop.marks loop.out loop.n (len - loop.i) loop.invariant.1
            j last few c.wide-c.result c.wide-c.ensures (ne_eqb _ _ w.if-there-c-ne1.true) (eq-eqb _ _ w.if-marks-c-ne1.false))
        | else-there-c-ne1 w ↦ rw (w.marks-is, w.out-is, w.n-is, next)
            (adding_known c.args.there.now c.args.list.cells _ loop.marks loop.out loop.n (len - loop.i) loop.invariant.1
            j last few c.wide-c.result c.wide-c.ensures (eq-eqb _ _ w.if-there-c-ne1.false))
      ],
    )

pub returns : goal.returns
returns c =
    let loop = c.loop-i in
    let len = c.args.list.len in record { still_listed = loop.invariant.1.listed; out_after = adding_end c.args.there.now c.args.list.cells _ loop.marks loop.out loop.n (len - loop.i) loop.invariant.1 (omega (arith, c.loop-i-test.false)) }
