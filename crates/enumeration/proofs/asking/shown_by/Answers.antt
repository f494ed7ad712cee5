-- `enumeration::asking::shown_by` meets its contract. Groups are settled, one solution is asked for, and then each other group: what is marked some solution shows, and of
-- all groups all that some solution shows is marked. Rests on what `settle`, `ask_any` and `ask_groups` ensure. Assumes nothing.
use mathlib.Core.Path.{sym, ap, ◌∙◌}
use native.Mathlib.Omega.{arith}
use lib.ListN.{take}
use Rattle.blocks.specs.Blocks.{Block}
use Rattle.blocks.specs.Places.{block_between}
use Rattle.groups.specs.declared.Grouped.{Grouped}
use Rattle.search.specs.Searching.{OrderOf}
use Rattle.orders.specs.WholeOrders.{in_order}
use Rattle.enumeration.specs.Asking.{OverGroups, ShownOnly, SettledTold}
use Rattle.enumeration.proofs.SearchAnswers.{answered_shown, any_told}
use Rattle.enumeration.proofs.ShownGroups.{groups_of_below, columns_reach, shown_start, shown_whole, shown_negative, start_columns, start_state, over_grouped, over_groups, over_few, over_ordered}
use Rattle.enumeration.proofs.asking.shown_by.Goals as goal
use Rattle.enumeration.proofs.asking.shown_by.Goals.{After-ask_any, After-in_turn-order, After-settle-settled, Start}

-- the block
abbrev block : Start → Block
block s = block_between s.args.set.now s.args.bounds

pub returns-then-grouped : goal.returns-then-grouped
returns-then-grouped c =
    let b = block (goal.at.returns-then-grouped c).Start in
    shown_negative b (shown_start b) c.requires.combinable (sym (ap (λ (x : Grouped). x.negative) c.requires.grouped_value) ∙ c.if-grouped.true)

pub settle-settled-requires : goal.settle-settled-requires
settle-settled-requires c =
    let b = block (goal.at.settle-settled-requires c).Start in
    record { columns = rw c.requires.grouped_value (start_columns b c.requires.combinable); state = rw c.requires.grouped_value (start_state b c.requires.combinable) }

-- its groups, with those that are settled
over : (c : After-settle-settled)
    → OverGroups (block (goal.at.After-settle-settled c).Start) c.args.grouped.now (in_order c.settle-settled.result.begun) c.settle-settled.result.values c.settle-settled.result.unmet
over c =
    over_grouped (block (goal.at.After-settle-settled c).Start) c.args.grouped.now c.requires.grouped_value c.requires.combinable c.if-grouped.false c.settle-settled.result c.settle-settled.ensures.settles

pub in_turn-order-requires : goal.in_turn-order-requires
in_turn-order-requires c = (over_few (over (goal.at.in_turn-order-requires c).After-settle-settled), c.settle-settled.ensures.beginning)

-- the order in which any solution is looked for
ordered : (c : After-in_turn-order) → OrderOf c.args.grouped.now c.in_turn-order.result
ordered c = over_ordered (over (goal.at.After-in_turn-order c).After-settle-settled) c.in_turn-order.result c.in_turn-order.ensures.whole c.in_turn-order.ensures.below c.in_turn-order.ensures.once

-- the settled groups are the first of it
over_order : (c : After-in_turn-order)
    → OverGroups (block (goal.at.After-in_turn-order c).Start) c.args.grouped.now (take c.settle-settled.result.begun.count c.in_turn-order.result) c.settle-settled.result.values
    c.settle-settled.result.unmet
over_order c = rw c.in_turn-order.ensures.front (over (goal.at.After-in_turn-order c).After-settle-settled)

pub ask_any-requires : goal.ask_any-requires
ask_any-requires c = record {
  ordered = ordered (goal.at.ask_any-requires c).After-in_turn-order;
  state = (over (goal.at.ask_any-requires c).After-settle-settled).state;
  at_le_groups = c.in_turn-order.ensures.few;
}

-- what is marked then some solution shows, and of the settled groups all that some solution shows is marked
found : (c : After-ask_any)
    → ShownOnly (block (goal.at.After-ask_any c).Start) c.ask_any.new.self
    × SettledTold (block (goal.at.After-ask_any c).Start) (in_order c.settle-settled.result.begun) c.ask_any.new.self
found c =
    let b = block (goal.at.After-ask_any c).Start in
    let o = over_order (goal.at.After-ask_any c).After-in_turn-order in
    let count = c.settle-settled.result.begun.count in
    let few = c.in_turn-order.ensures.few in
    let at = ordered (goal.at.After-ask_any c).After-in_turn-order in (
      answered_shown c.in_turn-order.result count o at few _ (λ row m. m) c.ask_any.ensures.answered (shown_start b),
      rw c.in_turn-order.ensures.front at (any_told c.in_turn-order.result count o at few c.ask_any.ensures.answered),
    )

pub ask_groups-requires : goal.ask_groups-requires
ask_groups-requires c =
    let b = block (goal.at.ask_groups-requires c).Start in
    let o = over (goal.at.ask_groups-requires c).After-settle-settled in record {
      by_index = λ j h. rw o.is (columns_reach c.args.set.now.cells c.args.set.now.slots c.args.set.now.rests c.args.bounds c.requires.arrays c.requires.combinable j (rw o.is at h));
      group_of_value = rw o.is (groups_of_below b c.requires.combinable);
      beginning = c.settle-settled.ensures.beginning;
      over_groups = (b, rw c.ask_any.ensures.unmet_unchanged o, (found (goal.at.ask_groups-requires c).After-ask_any).0);
    }

pub returns : goal.returns
returns c =
    let b = block (goal.at.returns c).Start in
    let o = over (goal.at.returns c).After-settle-settled in
    let (first, settled) = found (goal.at.returns c).After-ask_any in
    let (only, told) = c.ask_groups.ensures b (rw c.ask_any.ensures.unmet_unchanged o) first settled in
    shown_whole b only (omega (arith, over_few o, over_groups o)) (λ j h. told j (omega (arith, h, over_groups o)))
