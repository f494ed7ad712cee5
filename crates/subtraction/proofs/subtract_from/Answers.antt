-- `subtraction::subtract_from` meets its contract. The loop's invariant: the marks, with what the equation marks beside those from place f on, are the marks
-- at the start with what it marks beside all of them. The measure is what is left. Rests on the laws of marks so far and of pairs. Assumes nothing.
use native.Mathlib.Omega.{arith}
use Rattle.blocks.specs.Places.{OnBoard}
use Rattle.blocks.proofs.Between.{equations_more, equations_none, listed_on_board}
use Rattle.subtraction.proofs.MarkedSoFar.{marked_start, marked_next, marked_pass, marked_end}
use Rattle.subtraction.proofs.Pairs.{own_marked, shared_few, pair_apart, pair_found, pair_other}
use Rattle.subtraction.proofs.subtract_from.Goals as goal
use Rattle.subtraction.proofs.subtract_from.Goals.{After-slots_at-list, After-slots_at-other, else-shared-gt0, then-shared-gt0+else-rest-shared, then-shared-gt0+then-rest-shared}

-- the cells of the equation are places of the marks
list_on_board : (c : After-slots_at-list) → OnBoard c.slots_at-list.result
list_on_board c =
    listed_on_board _ c.args.set.now.slots c.args.e c.slots_at-list.ensures c.args.bounds.end_equation c.requires.slots.0 c.requires.inside

-- and so are those of the other
other_on_board : (c : After-slots_at-other) → OnBoard c.slots_at-other.result
other_on_board c =
    listed_on_board _ c.args.set.now.slots c.loop-f.f c.slots_at-other.ensures c.args.bounds.end_equation c.requires.slots.0 c.loop-f-test.true

pub marks_of-own-requires : goal.marks_of-own-requires
marks_of-own-requires c = list_on_board c

pub loop-f-init : goal.loop-f-init
loop-f-init c = (marked_start _ _ _, marked_start _ _ _)

pub count_marked-shared-requires : goal.count_marked-shared-requires
count_marked-shared-requires c = other_on_board (goal.at.count_marked-shared-requires c).After-slots_at-other

pub overflow_add-rest : goal.overflow_add-rest
overflow_add-rest c =
    let few = shared_few c.args.set.now.slots c.args.set.now.rests c.args.e c.loop-f.f _ _ c.slots_at-list.ensures c.slots_at-other.ensures
    _ c.marks_of-own.ensures _ c.count_marked-shared.ensures in
    omega (arith, c.wide_byte-rest.ensures)

pub overflow_add-wide_byte : goal.overflow_add-wide_byte
overflow_add-wide_byte c = omega (arith, c.wide_byte.ensures, (list_on_board (goal.at.overflow_add-wide_byte c).After-slots_at-list).few)

pub mark_own-requires : goal.mark_own-requires
mark_own-requires c = (list_on_board (goal.at.mark_own-requires c).After-slots_at-list, other_on_board (goal.at.mark_own-requires c).After-slots_at-other)

pub mark_own-requires-then-rest-shared : goal.mark_own-requires-then-rest-shared
mark_own-requires-then-rest-shared c = (other_on_board (goal.at.mark_own-requires-then-rest-shared c).After-slots_at-other, list_on_board (goal.at.mark_own-requires-then-rest-shared c).After-slots_at-list)

pub loop-f-preserved : goal.loop-f-preserved
loop-f-preserved c =
    let slots = c.args.set.now.slots in
    let rests = c.args.set.now.rests in
    let e = c.args.e in
    let f = c.loop-f.f in
    let end = c.args.bounds.end_equation in
    let inv = c.loop-f.invariant in
    let test = c.loop-f-test.true in
    let first = c.slots_at-list.ensures in
    let second = c.slots_at-other.ensures in
    let marks = c.marks_of-own.ensures in
    let shared = c.count_marked-shared.ensures in
    let rest = c.wide_byte-rest.ensures.0 in
    let more = equations_more slots rests f end test in
    elim c.if-shared-gt0.branch [
      | then-shared-gt0+then-rest-shared w ↦ let found = pair_found slots rests e f _ _ first second _ marks _ shared end c.requires.slots.1 c.requires.inside test w.if-shared-gt0.true _ rest _ w.wide_byte.ensures.0 w.if-rest-shared.true in
          rw w.marks-is (
            marked_next _ _ _ _ _ inv.0 _ _ more _ (λ d. rw found (own_marked slots rests e f _ _ first second c.loop-f.marks.mines w.mark_own.new.marks w.mark_own.ensures d)),
            marked_next _ _ _ _ _ inv.1 _ _ more _ (λ d. rw found (own_marked slots rests f e _ _ second first c.loop-f.marks.safe w.mark_own-then-rest-shared.new.marks w.mark_own-then-rest-shared.ensures d)),
          )
      | then-shared-gt0+else-rest-shared w ↦ let passed = pair_other slots rests e f _ _ first second _ marks _ shared end c.requires.slots.1 c.requires.inside test w.if-shared-gt0.true _ rest _ w.wide_byte.ensures.0 w.if-rest-shared.false in
          rw w.marks-is (
            marked_pass _ _ _ _ _ inv.0 _ _ more (λ d. rw passed),
            marked_pass _ _ _ _ _ inv.1 _ _ more (λ d. rw passed),
          )
      | else-shared-gt0 w ↦ let passed = pair_apart slots rests e f _ _ first second _ marks _ shared end c.requires.slots.1 c.requires.inside test w.if-shared-gt0.false in
          rw w.marks-is (
            marked_pass _ _ _ _ _ inv.0 _ _ more (λ d. rw passed),
            marked_pass _ _ _ _ _ inv.1 _ _ more (λ d. rw passed),
          )
    ]

pub returns : goal.returns
returns c =
    let none = equations_none c.args.set.now.slots c.args.set.now.rests c.loop-f.f c.args.bounds.end_equation c.loop-f-test.false in
    record { mines = marked_end _ _ _ _ _ c.loop-f.invariant.0 none; safe = marked_end _ _ _ _ _ c.loop-f.invariant.1 none }
