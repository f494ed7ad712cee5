-- `chunks::put_alone` meets its contract. Rests on the laws of `Growing`. Assumes nothing.
use native.Mathlib.Omega.{arith}
use Rattle.blocks.proofs.Behind.{growing_room, growing_next, growing_pass, growing_end}
use Rattle.chunks.proofs.Remaining.{slot_filler, slot_cell, bare_more, bare_pass, bare_none}
use Rattle.chunks.proofs.put_alone.Goals as goal
use Rattle.chunks.proofs.put_alone.Goals.{else-set-e, then-set-e}

pub put_bare-out-requires : goal.put_bare-out-requires
put_bare-out-requires c =
    let loop = c.loop-e in
    let set = c.args.set.now in
    let none = slot_filler set.slots loop.e c.requires.slots.whole (omega (arith, c.requires.slots.few)) c.if-set-e.true in
    growing_room loop.invariant c.requires.room.fits _ _ (bare_more set.slots set.rests loop.e c.args.bounds.end_equation c.loop-e-test.true none)

pub loop-e-preserved : goal.loop-e-preserved
loop-e-preserved c =
    let loop = c.loop-e in
    let set = c.args.set.now in
    let end = c.args.bounds.end_equation in
    let test = c.loop-e-test.true in
    elim c.if-set-e.branch [
      | then-set-e w ↦ rw w.out-is
          (growing_next loop.invariant c.requires.room.fits _ _
          (bare_more set.slots set.rests loop.e end test (slot_filler set.slots loop.e c.requires.slots.whole (omega (arith, c.requires.slots.few)) w.if-set-e.true))
          _ w.put_bare-out.ensures)
      | else-set-e w ↦ rw w.out-is
          (growing_pass loop.invariant _
          (bare_pass set.slots set.rests loop.e end test (slot_cell set.slots loop.e c.requires.slots.whole (omega (arith, c.requires.slots.few)) w.if-set-e.false)))
    ]

pub returns : goal.returns
returns c = growing_end c.loop-e.invariant (bare_none c.args.set.now.slots c.args.set.now.rests c.loop-e.e c.args.bounds.end_equation c.loop-e-test.false)
