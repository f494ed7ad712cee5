-- `totals::joining::join` meets its contract. The loop's invariant: the array has the sums with the part of the set before place t. Rests on the laws of joined
-- sets. Assumes nothing.
use borrow.Author.Tests.{eq-eqb, ne_eqb}
use Rattle.totals.proofs.JoinedSets.{join_none, join_passed, join_far, join_gained}
use Rattle.totals.proofs.joining.join.Goals as goal
use Rattle.totals.proofs.joining.join.Goals.{then-has-eq1+then-t-rest, else-has-eq1, else-has-eq1-via-then-has-eq1+else-t-rest, else-has-eq1-via-else-has-eq1}

pub loop-t-init : goal.loop-t-init
loop-t-init c = join_none c.args.rest c.args.before

pub loop-t-preserved : goal.loop-t-preserved
loop-t-preserved c =
    let loop = c.loop-t in
    let set = c.args.set.now in
    elim c.if-has-eq1.branch [
      | then-has-eq1+then-t-rest w ↦ rw w.after-is (join_gained set loop.t loop.invariant (eq-eqb _ _ w.if-has-eq1.true) w.add_count.ensures)
      | else-has-eq1 w ↦ rw w.after-is (elim w.else-has-eq1.branch [
        | else-has-eq1-via-then-has-eq1+else-t-rest v ↦ join_far set loop.t loop.invariant v.if-t-rest.false
        | else-has-eq1-via-else-has-eq1 v ↦ join_passed set loop.t loop.invariant (ne_eqb _ _ v.if-has-eq1.false)
      ])
    ]
