-- `settling::Settled::settle` meets its contract. The loop's invariant: only groups are settled, each at its value. Each sweep but the last settles a group, of which there are so
-- many. Rests on the laws of settled groups. Assumes nothing.
use native.Mathlib.Omega.{arith}
use Rattle.settling.proofs.SettledGroups.{settles_none, settled_few}
use Rattle.settling.proofs.Settled.settle.Goals as goal

pub loop-settled-init : goal.loop-settled-init
loop-settled-init c = (
  record { inside = rw c.empty.ensures },
  rw (c.empty.ensures, c.at_first.ensures.0, c.at_first.ensures.1) (settles_none c.args.grouped.now.sizes c.args.grouped.now.columns _ c.args.grouped.now.needs c.args.grouped.now.rooms),
)

pub loop-settled-smaller : goal.loop-settled-smaller
loop-settled-smaller c = omega (arith, settled_few c.args.grouped.now.groups c.sweep.new.self.begun c.sweep.ensures.beginning_2)
