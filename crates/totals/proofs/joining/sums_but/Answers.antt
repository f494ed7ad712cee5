-- `totals::joining::sums_but` meets its contract. The loop's invariant: the array has the sums of the free cells and the blocks before j, but one. Rests on the laws
-- of joined sets. Assumes nothing.
use Rattle.totals.proofs.JoinedSets.{sums_below, sums_same, blocks_joined, block_left_out}
use Rattle.totals.proofs.joining.sums_but.Goals as goal
use Rattle.totals.proofs.joining.sums_but.Goals.{else-j-but, then-j-but}

pub loop-j-init : goal.loop-j-init
loop-j-init c = sums_below c.counts_up_to-sums.ensures c.requires.2

pub loop-j-preserved : goal.loop-j-preserved
loop-j-preserved c =
    let loop = c.loop-j in
    elim c.if-j-but.branch [
      | then-j-but w ↦ rw w.sums-is
          (blocks_joined c.args.counts.now c.args.set.now.cell_ends c.args.but c.args.free loop.j w.if-j-but.true
          (sums_same w.counts_of.ensures.held (w.join-more.ensures.sums _ loop.invariant)))
      | else-j-but w ↦ rw w.sums-is (block_left_out c.args.counts.now c.args.set.now.cell_ends c.args.but c.args.free loop.j w.if-j-but.false loop.invariant)
    ]
