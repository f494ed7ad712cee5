-- `totals::joining::counts_of` meets its contract: a block's counts stand between its ends, one place more for it and for each block before it. Assumes nothing.
use Prim.Native.Nat.{◌+◌, ◌-◌}
use native.Mathlib.Omega.{arith}
use lib.ListN.{get_or, drop, length-take}
use Rattle.blocks.specs.BlockSets.{begin_at}
use Rattle.totals.proofs.JoinedSets.{set_between}
use Rattle.totals.proofs.joining.counts_of.Goals as goal

pub returns : goal.returns
returns c =
    let ends = c.args.set.now.cell_ends in
    let first = begin_at ends c.args.j + c.args.j in
    let end = get_or ends c.args.j 0 + c.args.j + 1 in
    let rising = c.requires.0.rising c.args.j c.requires.1 in
    rw c.bounds_at-bounds.ensures record {
      held = set_between c.args.counts.now first end (omega (arith, rising));
      few = omega (arith, rising, length-take (end - first) (drop first c.args.counts.now));
    }
