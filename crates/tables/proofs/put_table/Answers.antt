-- `put_table` meets its contract: a block with a negative remainder has no solution; else its groups are weighed, and where the rows have room they
-- are written. Rests on WrittenTable and on what `combine`, `weigh`, `rows_fit` and `put_rows` ensure. Assumes nothing.
use Prim.Native.Nat.{ℕ}
use mathlib.Core.Path.{sym}
use native.Mathlib.Omega.{arith}
use lib.ListN.{replicate, length-replicate}
use Rattle.blocks.specs.Blocks.{Block}
use Rattle.blocks.specs.Places.{block_between}
use Rattle.tables.proofs.WrittenTable.{groups_some, weigh_room, weigh_few, table_state, table_negative, table_ordered, rows_room, table_listed, table_refused_lem}
use Rattle.tables.proofs.put_table.Goals as goal
use Rattle.tables.proofs.put_table.Goals.{Start}

-- the block
abbrev block : Start → Block
block s = block_between s.args.set.now s.args.bounds

pub returns-then-grouped : goal.returns-then-grouped
returns-then-grouped c = table_negative (block (goal.at.returns-then-grouped c).Start) c.requires.combinable c.combine-grouped.ensures c.args.table.now c.if-grouped.true

pub weigh-order-requires : goal.weigh-order-requires
weigh-order-requires c =
    let b = block (goal.at.weigh-order-requires c).Start in
    record { groups_bound = weigh_room b c.requires.combinable c.combine-grouped.ensures; equations_len_bound = weigh_few b c.requires.combinable c.combine-grouped.ensures }

pub rows_fit-requires : goal.rows_fit-requires
rows_fit-requires c =
    let b = block (goal.at.rows_fit-requires c).Start in
    record {
      ordered = table_ordered b c.requires.combinable c.combine-grouped.ensures c.weigh-order.ensures;
      state = table_state b c.requires.combinable c.combine-grouped.ensures;
      groups_nonzero = (groups_some b c.requires.combinable c.combine-grouped.ensures, omega arith);
    }

pub returns-then-not-rows_fit : goal.returns-then-not-rows_fit
returns-then-not-rows_fit c =
    table_refused_lem (block (goal.at.returns-then-not-rows_fit c).Start) c.requires.combinable c.combine-grouped.ensures c.weigh-order.ensures
    c.if-grouped.false c.args.table.now (sym c.if-not-rows_fit.ensures)

pub put_rows-solutions-requires : goal.put_rows-solutions-requires
put_rows-solutions-requires c =
    let b = block (goal.at.put_rows-solutions-requires c).Start in
    let first = c.at_first-unmet.ensures in
    record {
      ordered = table_ordered b c.requires.combinable c.combine-grouped.ensures c.weigh-order.ensures;
      state = rw (first.0, first.1) (table_state b c.requires.combinable c.combine-grouped.ensures);
      at_le_groups = (omega arith, groups_some b c.requires.combinable c.combine-grouped.ensures, length-replicate {A = ℕ} 1024 0);
      groups_in_bounds = rw (first.0, first.1) (rows_room b c.requires.combinable c.combine-grouped.ensures c.weigh-order.ensures c.if-grouped.false _ (sym c.if-not-rows_fit.ensures));
    }

pub returns : goal.returns
returns c =
    let first = c.at_first-unmet.ensures in
    table_listed (block (goal.at.returns c).Start) c.requires.combinable c.combine-grouped.ensures c.weigh-order.ensures
    c.if-grouped.false c.args.table.now (replicate 1024 0) (length-replicate {A = ℕ} 1024 0)
    (sym c.if-not-rows_fit.ensures) (rw (first.0, first.1) at c.put_rows-solutions.ensures.value) (rw (first.0, first.1) at c.put_rows-solutions.ensures.table_after)
