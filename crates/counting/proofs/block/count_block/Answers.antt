-- `counting::block::count_block` meets its contract. The walk begins with a table that has no entry of its own; what it tells of rows is told of the block's
-- solutions, and its tags stay below those of the next. Rests on BlockRows and on what `walk` ensures. Assumes nothing.
use native.Mathlib.Omega.{arith}
use Rattle.counting.proofs.BlockRows.{start_few, start_ordered, start_fits, start_walk, counted_negative, counted_walked}
use Rattle.counting.proofs.block.count_block.Goals as goal

pub returns-then-grouped : goal.returns-then-grouped
returns-then-grouped c =
    let table = c.requires.tags_len in
    record {
      counted_by = λ b k is. counted_negative b k c.args.grouped.now is c.args.allowed.now c.if-grouped.true;
      tags_len_2 = (table.0, table.1, table.2, λ i. omega (arith, table.3 i));
    }

pub own_order-order-requires : goal.own_order-order-requires
own_order-order-requires c =
    let (b, k, is) = c.requires.combinable in
    start_few b k c.args.grouped.now is

pub invariant_of-walk : goal.invariant_of-walk
invariant_of-walk c =
    let order = c.own_order-order in
    let (b, k, is) = c.requires.combinable in
    record { ordered = start_ordered b k c.args.grouped.now is order.result order.ensures; tags_fit = c.requires.tags_len.4 }

pub walk-requires : goal.walk-requires
walk-requires c =
    let order = c.own_order-order in
    let (b, k, is) = c.requires.combinable in
    let r = c.args.grouped.now in
    let met = c.args.met.now in
    let unmet = c.at_first-unmet.ensures in
    record {
      at_le_groups = (omega arith, start_fits b k r is order.result order.ensures);
      underway = rw (unmet.0, unmet.1) (start_walk b k r is order.result order.ensures c.args.allowed.now c.args.first met.tags met.keys met.results c.requires.tags_len);
    }

pub returns : goal.returns
returns c =
    let order = c.own_order-order in
    let (b, k, is) = c.requires.combinable in
    let r = c.args.grouped.now in
    let met = c.args.met.now in
    let (course, underway, begun) = start_walk b k r is order.result order.ensures c.args.allowed.now c.args.first met.tags met.keys met.results c.requires.tags_len in
    let unmet = c.at_first-unmet.ensures in
    let right = c.walk.ensures.right course (rw (unmet.0, unmet.1) underway) begun in
    record {
      counted_by = λ b k is. counted_walked b k r is order.result order.ensures c.if-grouped.false (rw (unmet.0, unmet.1) at c.walk.ensures.walked);
      tags_len_2 = (right.whole.0, right.whole.1, right.whole.2, right.below);
    }
