-- `counting::block::own_order` meets its contract. The loop's invariant: the array has the groups before g. The measure is what is left.
-- Rests on BlockRows. Assumes nothing.
use native.Mathlib.Omega.{arith}
use Rattle.counting.proofs.BlockRows.{own_order_next}
use Rattle.counting.proofs.block.own_order.Goals as goal

pub loop-g-preserved : goal.loop-g-preserved
loop-g-preserved c =
    let loop = c.loop-g in
    let test = c.loop-g-test.true in
    (omega (arith, test), rw loop.invariant.1 (own_order_next loop.g (omega (arith, test, c.requires))))
