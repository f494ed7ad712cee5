-- `growth::grow_block` meets its contract. The loop's invariant: the first h sources found are done, and `grow` gives the block from here as it does
-- from its first source; those left and those found are one more than at first together, so as many steps as were left less h are enough, and that is the
-- measure. Rests on the laws of `Growing`. Assumes nothing.
use Prim.Native.Nat.{suc, ◌+◌, ◌-◌, ◌≤◌}
use mathlib.Core.Path.{◌≡◌, ◌∙◌}
use native.Mathlib.Omega.{arith}
use lib.ListN.{length}
use Rattle.growth.proofs.Growing.{grow_turn, grow_ends}
use Rattle.growth.proofs.grow_block.Goals as goal

pub loop-h-preserved : goal.loop-h-preserved
loop-h-preserved c =
    let l = c.loop-h in
    let n = c.args.left.now.len in
    let t = c.take_sharing.ensures in
    let few : l.found.len ≤ length l.found.cells = omega (arith, l.invariant.3.long, l.invariant.3.few) in
    let step : n - l.h ≡ suc (n - (l.h + 1)) = omega arith in
    let turn = grow_turn few (rw step at l.invariant.4) l.invariant.0 c.loop-h-test.true _ c.wide-c.ensures _ _ t.left_after _ _ t.found_after in
    (t.le_left_2.0, t.le_left_2.1 ∙ l.invariant.1, t.cells_3.0, t.cells_3.1, turn)

pub returns : goal.returns
returns c =
    let l = c.loop-h in
    let few : l.found.len ≤ length l.found.cells = omega (arith, l.invariant.3.long, l.invariant.3.few) in
    let whole = grow_ends few l.invariant.4 c.loop-h-test.false in record { found_after = whole.0; left_after = whole.1; cells_2 = (l.invariant.2, l.invariant.3); le_left = (l.invariant.0, l.invariant.1) }
