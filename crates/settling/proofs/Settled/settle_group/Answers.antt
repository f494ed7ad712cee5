-- `settling::Settled::settle_group` meets its contract: where the least and the most that the group is left are one value, that value is possible and no other is.
-- Rests on the laws of settled groups. Assumes nothing.
use mathlib.Core.Path.{◌≡◌, ◌∙◌}
use mathlib.Core.Bool.{true}
use mathlib.Core.List.{[], ◌∷◌, ◌++◌}
use native.Mathlib.Omega.{arith}
use lib.ListN.{get_or, take}
use borrow.Author.Rules.{rules}
use Rattle.lists.proofs.AddNew.{add_new_push}
use Rattle.lists.proofs.Unions.{last_cases}
use Rattle.blocks.specs.BlockSets.{slot_cells}
use Rattle.blocks.specs.Places.{OnBoard}
use Rattle.blocks.proofs.Between.{listed_cells, slots_eight}
use Rattle.search.specs.Trees.{possible}
use Rattle.search.proofs.Lowering.{possible_needs, possible_rooms, state_lowered}
use Rattle.orders.specs.WholeOrders.{in_order}
use Rattle.settling.specs.Settling.{Leaves}
use Rattle.settling.proofs.SettledGroups.{settles_more}
use Rattle.settling.proofs.Settled.settle_group.Goals as goal
use Rattle.settling.proofs.Settled.settle_group.Goals.{After-slots_at-column, Else-span}

-- the group's column, as the code lists it
column : (c : After-slots_at-column) → take c.slots_at-column.result.len c.slots_at-column.result.cells ≡ slot_cells c.args.grouped.now.columns c.args.group
column c = listed_cells c.slots_at-column.result c.args.grouped.now.columns c.args.group c.slots_at-column.ensures

on_board : (c : After-slots_at-column) → OnBoard c.slots_at-column.result
on_board c =
    record { few = rw c.slots_at-column.ensures (slots_eight c.args.grouped.now.columns c.args.group); below = rw (column c) c.requires.group_bound.1.below }

-- it is left one value
one_value : (c : Else-span)
    → Leaves (get_or c.args.grouped.now.sizes c.args.group 0) (slot_cells c.args.grouped.now.columns c.args.group) c.args.self.now.unmet.needs c.args.self.now.unmet.rooms c.span_left-span.result.most
    c.span_left-span.result.most
one_value c = rw (c.if-span.false, c.as_slice.ensures, column (goal.at.Else-span c).After-slots_at-column) at c.span_left-span.ensures

-- so it can take it
can : (c : Else-span)
    → possible (get_or c.args.grouped.now.sizes c.args.group 0) (slot_cells c.args.grouped.now.columns c.args.group) c.args.self.now.unmet.needs c.args.self.now.unmet.rooms c.span_left-span.result.most ≡ true
can c = (one_value c).each c.span_left-span.result.most (omega arith) (omega arith)

pub set_group-requires-clause-enough_needs : goal.set_group-requires-clause-enough_needs
set_group-requires-clause-enough_needs c =
    rw (column (goal.at.set_group-requires-clause-enough_needs c).After-slots_at-column)
    (possible_needs (get_or c.args.grouped.now.sizes c.args.group 0) (slot_cells c.args.grouped.now.columns c.args.group) c.args.self.now.unmet.needs c.args.self.now.unmet.rooms c.span_left-span.result.most
    (can (goal.at.set_group-requires-clause-enough_needs c).Else-span))

pub set_group-requires-clause-enough_rooms : goal.set_group-requires-clause-enough_rooms
set_group-requires-clause-enough_rooms c =
    rw (column (goal.at.set_group-requires-clause-enough_rooms c).After-slots_at-column)
    (possible_rooms (get_or c.args.grouped.now.sizes c.args.group 0) (slot_cells c.args.grouped.now.columns c.args.group) c.args.self.now.unmet.needs c.args.self.now.unmet.rooms c.span_left-span.result.most
    (can (goal.at.set_group-requires-clause-enough_rooms c).Else-span))

pub invariant_of-self : goal.invariant_of-self
invariant_of-self c = record { state = rw (c.set_group.ensures.needs_after, c.set_group.ensures.rooms_after) (state_lowered c.span_left-span.result.most (get_or c.args.grouped.now.sizes c.args.group 0) (take c.slots_at-column.result.len c.slots_at-column.result.cells) c.args.self.now.state) }

pub returns-clause-by_index : goal.returns-clause-by_index
returns-clause-by_index c =
    λ g h. last_cases (in_order c.args.self.now.begun) c.args.group g (rw (c.add_group.ensures ∙ add_new_push (in_order c.args.self.now.begun) c.args.group [] c.requires.new) at h)

pub returns-clause-by_index_2 : goal.returns-clause-by_index_2
returns-clause-by_index_2 c =
    let cells = column (goal.at.returns-clause-by_index_2 c).After-slots_at-column in
    let needs_is = rw cells at c.set_group.ensures.needs_after in
    let rooms_is = rw cells at c.set_group.ensures.rooms_after in
    let more : in_order c.add_group.new.self ≡ in_order c.args.self.now.begun ++ (c.args.group ∷ []) =
    c.add_group.ensures ∙ add_new_push (in_order c.args.self.now.begun) c.args.group [] c.requires.new in
    λ needs rooms h. rw (needs_is, rooms_is, more)
    (settles_more h c.args.group c.span_left-span.result.most c.requires.new (search rules) (one_value (goal.at.returns-clause-by_index_2 c).Else-span))
