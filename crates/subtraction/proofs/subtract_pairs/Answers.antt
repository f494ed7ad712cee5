-- `subtraction::subtract_pairs` meets its contract. The loop's invariant: the marks, with what the equations from place e on mark beside all of them, are the
-- marks at the start with what all pairs mark. The measure is what is left. Rests on the laws of marks so far. Assumes nothing.
use Rattle.blocks.proofs.Between.{equations_more, equations_none}
use Rattle.subtraction.proofs.MarkedSoFar.{marked_start, marked_next, marked_end}
use Rattle.subtraction.proofs.subtract_pairs.Goals as goal

pub loop-e-init : goal.loop-e-init
loop-e-init c = (marked_start _ _ _, marked_start _ _ _)

pub subtract_from-requires : goal.subtract_from-requires
subtract_from-requires c = record { slots = c.requires; inside = c.loop-e-test.true }

pub loop-e-preserved : goal.loop-e-preserved
loop-e-preserved c =
    let loop = c.loop-e in
    let more = equations_more c.args.set.now.slots c.args.set.now.rests loop.e c.args.bounds.end_equation c.loop-e-test.true in
    let marks = c.subtract_from.ensures in
    (marked_next _ _ _ _ _ loop.invariant.0 _ _ more _ marks.mines, marked_next _ _ _ _ _ loop.invariant.1 _ _ more _ marks.safe)

pub returns : goal.returns
returns c =
    let loop = c.loop-e in
    let none = equations_none c.args.set.now.slots c.args.set.now.rests loop.e c.args.bounds.end_equation c.loop-e-test.false in
    record { mines = marked_end _ _ _ _ _ loop.invariant.0 none; safe = marked_end _ _ _ _ _ loop.invariant.1 none }
