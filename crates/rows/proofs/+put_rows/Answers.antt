-- `rows::put_rows`, which calls itself, meets its contract: what it writes follows from what its calls write by the steps of `WrittenRows`, and the room for all
-- rows is room for those of a value behind those before it. The measure is the number of unset groups. Assumes nothing.
use Prim.Native.Nat.{ℕ, ◌+◌, ◌*◌, ◌≤◌}
use mathlib.Core.Bool.{true}
use mathlib.Core.Path.{◌≡◌, refl, sym, ◌∙◌}
use native.Mathlib.Omega.{arith}
use lib.ListN.{length, get_or, take}
use lib.Seq.{length-take-le}
use borrow.Author.Rules.{rules}
use Rattle.lists.proofs.LentParts.{length_part, part_written}
use Rattle.search.specs.Searching.{State}
use Rattle.search.proofs.OrderedGroups.{Group, group_at, group_place, group_small, column_is, column_on_board}
use Rattle.search.proofs.TakenValues.{Taken, taken_on_board, taken_once, taken_needs, taken_rooms, taken_state, same_state}
use Rattle.rows.proofs.WrittenRows.{TriedRows, written, written_met, written_unmet, leaf_one, room_row, room_below, tried_none, tried_same, tried_possible, tried_impossible, tried_all}
use Rattle.rows.proofs.+put_rows.Goals as goal
use Rattle.rows.proofs.+put_rows.Goals.{Else-not-all_met, After-wide-g, After-possible, then-possible, else-possible}

-- ---- no group is left

pub returns-then-not-all_met : goal.returns-then-not-all_met
returns-then-not-all_met t c = let m = written_unmet c.args.order.now c.args.grouped.now.groups c.args.grouped.now.sizes c.args.grouped.now.columns c.args.at c.args.unmet.now.needs c.args.unmet.now.rooms c.args.values.now c.args.table.now c.args.row c.if-at-grouped.true (sym c.all_met.ensures ∙ c.if-not-all_met.true) in record { value = m.count; table_after = m.wrote; unmet_unchanged = refl; kept = m.kept }

-- there is room for one row
room : (t : ℕ) (c : Else-not-all_met t)
    → (c.args.row * c.args.grouped.now.groups + c.args.grouped.now.groups ≤ length c.args.table.now) × (c.args.row + 1 ≤ length c.args.table.now)
room t c =
    let one = leaf_one c.args.order.now c.args.grouped.now.groups c.args.grouped.now.sizes c.args.grouped.now.columns c.args.at c.args.unmet.now.needs c.args.unmet.now.rooms c.args.values.now c.args.table.now c.args.row c.if-at-grouped.true (sym c.all_met.ensures ∙ c.if-not-all_met.false) in
    room_row c.args.row c.args.grouped.now.groups (length c.args.table.now) _ one c.requires.at_le_groups.1 c.requires.groups_in_bounds

pub write_row-requires : goal.write_row-requires
write_row-requires t c =
    let fits = room t (goal.at.write_row-requires t c).Else-not-all_met in
    (c.requires.ordered.few, c.requires.at_le_groups.2, omega (arith, fits.0, length_part c.args.table.now (c.args.row * c.args.grouped.now.groups)))

pub overflow_add-result : goal.overflow_add-result
overflow_add-result t c = omega (arith, (room t (goal.at.overflow_add-result t c).Else-not-all_met).1)

pub returns-then-at-grouped : goal.returns-then-at-grouped
returns-then-at-grouped t c =
    let fits = room t (goal.at.returns-then-at-grouped t c).Else-not-all_met in
    let row = take c.args.grouped.now.groups c.args.values.now in
    let long = length-take-le c.args.grouped.now.groups c.args.values.now (omega (arith, c.requires.ordered.few, c.requires.at_le_groups.2)) in
    let wrote = part_written c.args.table.now (c.args.row * c.args.grouped.now.groups) row _ (omega (arith, fits.0, long)) c.write_row.ensures in
    let m = written_met c.args.order.now c.args.grouped.now.groups c.args.grouped.now.sizes c.args.grouped.now.columns c.args.at c.args.unmet.now.needs c.args.unmet.now.rooms c.args.values.now c.args.table.now c.args.row c.if-at-grouped.true _ (sym c.all_met.ensures ∙ c.if-not-all_met.false) wrote in record { value = m.count; table_after = m.wrote; unmet_unchanged = refl; kept = m.kept }

-- ---- the group whose values are tried

here : (t : ℕ) (c : After-wide-g t) → Group c.args.order.now c.args.grouped.now.groups c.args.grouped.now.equations c.args.grouped.now.sizes c.args.grouped.now.columns c.args.at c.wide-g.result
here t c = group_at c.args.at c.wide-g.result c.requires.ordered (omega (arith, c.requires.at_le_groups.0, c.if-at-grouped.false)) c.wide-g.ensures

-- the state before each value
state : (t : ℕ) (c : After-possible t) → State c.args.grouped.now.equations c.loop-v.unmet.needs c.loop-v.unmet.rooms
state t c = same_state c.requires.state c.loop-v.invariant.same

-- a value that is possible
taken : (t : ℕ) (o : After-possible t) → o.possible.result ≡ true
    → Taken o.args.order.now o.args.grouped.now.groups o.args.grouped.now.equations o.args.grouped.now.sizes o.args.grouped.now.columns o.args.at o.wide-g.result o.loop-v.unmet.needs o.loop-v.unmet.rooms o.loop-v.v (get_or o.args.grouped.now.sizes o.wide-g.result 0) o.slots_at-list.result
taken t o can =
    record {
      here = here t (goal.at.After-possible t o).After-wide-g;
      state = state t o;
      within = o.loop-v-test.true;
      column = o.slots_at-list.ensures;
      can = sym o.possible.ensures ∙ can;
    }

pub bounds-grouped-g : goal.bounds-grouped-g
bounds-grouped-g t c = group_place (here t (goal.at.bounds-grouped-g t c).After-wide-g)

pub slots_at-list-requires : goal.slots_at-list-requires
slots_at-list-requires t c = (c.requires.ordered.whole_columns, group_place (here t (goal.at.slots_at-list-requires t c).After-wide-g))

pub loop-v-init : goal.loop-v-init
loop-v-init t c = tried_none (here t (goal.at.loop-v-init t c).After-wide-g) c.args.unmet.now c.args.values.now c.args.table.now c.args.row

pub possible-requires : goal.possible-requires
possible-requires t c =
    let group = here t (goal.at.possible-requires t c).After-wide-g in
    let s = same_state c.requires.state c.loop-v.invariant.same in
    let small = group_small group in
    record { on_board = column_on_board group _ c.slots_at-list.ensures; size_bound = (small, omega (arith, c.loop-v-test.true, small), s.needs_small, s.rooms_small) }

pub bounds-values-g : goal.bounds-values-g
bounds-values-g t c = group_place (here t (goal.at.bounds-values-g t c).After-wide-g)

pub set_group-requires : goal.set_group-requires
set_group-requires t c =
    let k = taken t (goal.at.set_group-requires t c).After-possible c.if-possible.true in
    record { on_board = taken_on_board k; once = taken_once k; enough_needs = taken_needs k; enough_rooms = taken_rooms k }

pub put_rows-next-requires : goal.put_rows-next-requires
put_rows-next-requires t c =
    let k = taken t (goal.at.put_rows-next-requires t c).After-possible c.if-possible.true in
    let low = c.set_group.ensures in
    let inside = k.here.inside in
    let fits = room_below k c.loop-v.invariant low.needs_after low.rooms_after c.requires.groups_in_bounds (search rules) in
    (omega (arith, inside), (c.requires.ordered, (taken_state k low.needs_after low.rooms_after, ((omega (arith, inside), omega (arith, inside), search rules), fits))))

pub unset_group-requires : goal.unset_group-requires
unset_group-requires t c =
    let k = taken t (goal.at.unset_group-requires t c).After-possible c.if-possible.true in
    let s = same_state (taken_state k c.set_group.ensures.needs_after c.set_group.ensures.rooms_after) c.put_rows-next.ensures.unmet_unchanged in
    let small = group_small k.here in
    record { on_board = taken_on_board k; size_bound = (small, omega (arith, k.within, small), s.needs_small, s.rooms_small) }

pub loop-v-preserved : goal.loop-v-preserved
loop-v-preserved t c =
    let loop = c.loop-v in
    elim c.if-possible.branch [
      | then-possible w ↦
          let e = w.put_rows-next.ensures in
          tried_same w.unmet-is w.values-is w.table-is w.next-is (tried_possible (taken t (goal.at.loop-v-preserved t c).After-possible w.if-possible.true) loop.invariant w.set_group.ensures.needs_after w.set_group.ensures.rooms_after c.requires.at_le_groups.2 e.unmet_unchanged w.unset_group.ensures.needs_after w.unset_group.ensures.rooms_after (written c.args.grouped.now.groups loop.table loop.next e.value e.table_after e.kept))
      | else-possible w ↦
          let group = here t (goal.at.loop-v-preserved t c).After-wide-g in
          tried_same w.unmet-is w.values-is w.table-is w.next-is (tried_impossible group loop.invariant _ (column_is group _ c.slots_at-list.ensures) (sym c.possible.ensures ∙ w.if-possible.false))
    ]

-- the last value
pub returns-after-possible : goal.returns-after-possible
returns-after-possible t c =
    let loop = c.loop-v in
    let group = here t (goal.at.returns-after-possible t c).After-wide-g in
    let all : TriedRows c.args.order.now c.args.grouped.now.groups c.args.grouped.now.sizes c.args.grouped.now.columns c.args.at (loop.v + 1) c.args.unmet.now c.if-possible.unmet c.args.values.now c.if-possible.values c.args.table.now c.if-possible.table c.args.row c.if-possible.next =
    elim c.if-possible.branch [
      | then-possible w ↦
          let e = w.put_rows-next.ensures in
          tried_same w.unmet-is w.values-is w.table-is w.next-is (tried_possible (taken t (goal.at.returns-after-possible t c).After-possible w.if-possible.true) loop.invariant w.set_group.ensures.needs_after w.set_group.ensures.rooms_after c.requires.at_le_groups.2 e.unmet_unchanged w.unset_group.ensures.needs_after w.unset_group.ensures.rooms_after (written c.args.grouped.now.groups loop.table loop.next e.value e.table_after e.kept))
      | else-possible w ↦
          tried_same w.unmet-is w.values-is w.table-is w.next-is (tried_impossible group loop.invariant _ (column_is group _ c.slots_at-list.ensures) (sym c.possible.ensures ∙ w.if-possible.false))
    ] in
    let m = tried_all group all (omega (arith, c.loop-v-test.true)) in
    record { value = m.count; table_after = m.wrote; unmet_unchanged = all.same; kept = m.kept }
