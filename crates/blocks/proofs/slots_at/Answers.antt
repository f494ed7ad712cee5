-- `blocks::slots_at` meets its contract. The loop's invariant is told beside it. It rests on the laws of one turn in `Turns`. Assumes nothing.
use mathlib.Core.Path.{refl}
use native.Mathlib.Omega.{arith}
use Rattle.blocks.proofs.Turns.{length_part, pass_none, pass_cell, pass_filler, pass_last, passed_all}
use Rattle.blocks.proofs.slots_at.Goals as goal

pub loop-cell-init : goal.loop-cell-init
loop-cell-init c = rw c.empty-list.ensures (pass_none _)

pub push-requires : goal.push-requires
push-requires c = omega (arith, length_part c.args.slots.now c.args.e c.requires.0 c.requires.1)

pub loop-cell-preserved : goal.loop-cell-preserved
loop-cell-preserved c =
    let eight = length_part c.args.slots.now c.args.e c.requires.0 c.requires.1 in
    rw c.push.ensures (pass_cell _ _ _ eight c.loop-cell.invariant _ c.loop-cell-test.true refl c.if-cell.false)

pub returns-after-loop-cell : goal.returns-after-loop-cell
returns-after-loop-cell c =
    let eight = length_part c.args.slots.now c.args.e c.requires.0 c.requires.1 in
    passed_all _ _ _ (pass_last _ _ _ eight c.loop-cell.invariant (omega arith))

pub returns-then-cell : goal.returns-then-cell
returns-then-cell c =
    let eight = length_part c.args.slots.now c.args.e c.requires.0 c.requires.1 in
    passed_all _ _ _ (pass_filler _ _ _ eight c.loop-cell.invariant c.loop-cell-test.true c.if-cell.true)
