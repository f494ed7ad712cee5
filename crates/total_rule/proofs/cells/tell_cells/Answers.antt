-- `total_rule::cells::tell_cells` meets its contract. The loop's invariant: the cells before a place of the list are told. Assumes nothing.
use Prim.Native.Nat.{◌<◌}
use mathlib.Core.Path.{◌≡◌}
use native.Mathlib.Omega.{arith}
use lib.Dec.{ltb}
use lib.ListN.{length, get_or}
use borrow.Author.Tests.{ltb-true}
use Rattle.lists.proofs.All.{all_at}
use borrow.Author.Rules.{rules}
use Rattle.total_rule.proofs.ToldCells.{told_none, told_more}
use Rattle.total_rule.proofs.cells.tell_cells.Goals as goal

pub loop-cell-init : goal.loop-cell-init
loop-cell-init c = told_none _ c.args.told.now

pub loop-cell-preserved : goal.loop-cell-preserved
loop-cell-preserved c =
    let loop = c.loop-cell in
    let test = c.loop-cell-test.true in
    let long : length c.args.told.now ≡ 1024 = search rules in
    let below : c.wide-c.result < 1024 = rw c.wide-c.ensures (ltb-true (get_or c.args.cells.now loop.cell-index 0) 1024 (all_at (λ d. ltb d 1024) c.args.cells.now loop.cell-index 0 c.requires.below test)) in
    rw c.wide.ensures (told_more c.args.cells.now loop.cell-index test loop.invariant c.wide-c.result c.wide-c.ensures (omega arith))
