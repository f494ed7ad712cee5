-- `settling::Settled::sweep` meets its contract. The loop's invariant: the groups settled are groups, and with those settled at the start they are settled too. Rests
-- on the laws of settled groups. Assumes nothing.
use Rattle.orders.specs.WholeOrders.{in_order}
use Rattle.settling.proofs.SettledGroups.{inside_more}
use Rattle.settling.proofs.Settled.sweep.Goals as goal
use Rattle.settling.proofs.Settled.sweep.Goals.{else-not-contains, then-not-contains}

pub loop-g-preserved : goal.loop-g-preserved
loop-g-preserved c =
    let loop = c.loop-g in
    elim c.if-not-contains.branch [
      | then-not-contains w ↦ rw w.self-is (
        record { inside = inside_more c.args.grouped.now.groups loop.g c.loop-g-test.true (in_order loop.self.begun) (in_order w.settle_group.new.self.begun) loop.invariant.0.inside w.settle_group.ensures.by_index },
        λ needs rooms h. w.settle_group.ensures.by_index_2 needs rooms (loop.invariant.1 needs rooms h),
      )
      | else-not-contains w ↦ rw w.self-is loop.invariant
    ]
