-- `inside_cells` meets its contract. The loop's invariant: the count so far and the closed cells from c on that touch no open one are together all such
-- cells; at most c are counted. Rests on the laws of one turn in `CountTurns`. Assumes nothing.
use native.Mathlib.Omega.{arith}
use Rattle.grid.specs.Window.{neighbours_on}
use Rattle.frontier.proofs.CountTurns.{inside_all, inside_not_closed, inside_counted, inside_passed}
use Rattle.frontier.proofs.counts.inside_cells.Goals as goal
use Rattle.frontier.proofs.counts.inside_cells.Goals.{then-shown-eq10+then-touches_no_open, else-shown-eq10, else-shown-eq10-via-then-shown-eq10+else-touches_no_open, else-shown-eq10-via-else-shown-eq10}

pub loop-c-init : goal.loop-c-init
loop-c-init c = (omega (arith, inside_all (neighbours_on c.args.size) c.args.position.now), omega arith)

pub loop-c-preserved : goal.loop-c-preserved
loop-c-preserved c =
    let near = neighbours_on c.args.size in
    let p = c.args.position.now in
    let here = c.loop-c.c in
    let on = c.loop-c-test.true in
    elim c.if-shown-eq10.branch [
      | then-shown-eq10+then-touches_no_open w ↦ (omega (arith, w.count-is, inside_counted near p here on _ _ w.touches_no_open.ensures w.if-shown-eq10.true w.if-touches_no_open.true), omega (arith, w.count-is))
      | else-shown-eq10 w ↦ elim w.else-shown-eq10.branch [
        | else-shown-eq10-via-then-shown-eq10+else-touches_no_open v ↦ (omega (arith, w.count-is, inside_passed near p here on _ _ v.touches_no_open.ensures v.if-shown-eq10.true v.if-touches_no_open.false), omega (arith, w.count-is))
        | else-shown-eq10-via-else-shown-eq10 v ↦ (omega (arith, w.count-is, inside_not_closed near p here on v.if-shown-eq10.false), omega (arith, w.count-is))
      ]
    ]
