-- `bbbv::count_closed_safe` meets its contract. The loop's invariant: as many are found as there are among the first cells. Rests on the law of a count over one
-- number more. Assumes nothing.
use Prim.Native.Nat.{◌<◌}
use mathlib.Core.Path.{◌≡◌}
use mathlib.Core.Bool.{true, false}
use native.Mathlib.Omega.{arith}
use lib.ListN.{length}
use Rattle.lists.proofs.Kept.{count_range_push}
use Rattle.bbbv.specs.Flooded.{is_closed_safe, closed_safe}
use Rattle.bbbv.proofs.Flooded.{closed_safe_counts, open_passes, mine_passes}
use Rattle.bbbv.proofs.count_closed_safe.Goals as goal
use Rattle.bbbv.proofs.count_closed_safe.Goals.{then-cell+then-position-c-eq10, else-cell, else-cell-via-then-cell+else-position-c-eq10, else-cell-via-else-cell}

pub loop-c-preserved : goal.loop-c-preserved
loop-c-preserved c =
    let l = c.loop-c in
    let cells = c.args.cells.now in
    let position = c.args.position.now in
    let within : l.c < length position = omega (arith, c.loop-c-test.true, c.requires) in
    let next = count_range_push (is_closed_safe cells position) l.c l.found in
    elim c.if-cell.branch [
      | then-cell+then-position-c-eq10 w ↦ (omega (arith, w.found-is, next true l.invariant.0 (closed_safe_counts cells position l.c within w.if-cell.true w.if-position-c-eq10.true)), omega (arith, w.found-is))
      | else-cell w ↦ elim w.else-cell.branch [
        | else-cell-via-then-cell+else-position-c-eq10 v ↦ (omega (arith, w.found-is, next false l.invariant.0 (open_passes cells position l.c within v.if-cell.true v.if-position-c-eq10.false)), omega (arith, w.found-is))
        | else-cell-via-else-cell v ↦ (omega (arith, w.found-is, next false l.invariant.0 (mine_passes cells position l.c v.if-cell.false)), omega (arith, w.found-is))
      ]
    ]

pub returns : goal.returns
unfolding closed_safe
returns c =
    let l = c.loop-c in
    let end : l.c ≡ length c.args.cells.now = omega (arith, c.loop-c-test.false, l.auto.c-end) in
    rw (← end) l.invariant.0
