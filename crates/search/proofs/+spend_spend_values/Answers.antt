-- `search::spend` and `spend_values`, which call each other, meet their contracts: what each leaves follows from what its calls leave by the steps of
-- `Spending`. The loop over the values keeps what was found of those before; a group that was set is unset again, and what is unmet is as it was. The measure
-- falls with the unset groups. Assumes nothing.
use Prim.Native.Nat.{ℕ, ◌+◌}
use mathlib.Core.Bool.{true}
use mathlib.Core.Path.{◌≡◌, refl, sym, ◌∙◌}
use native.Mathlib.Omega.{arith}
use borrow.Author.Rules.{rules}
use Rattle.search.specs.Searching.{State}
use Rattle.search.proofs.OrderedGroups.{Group, group_at, group_place, group_small, column_is, column_on_board}
use Rattle.search.proofs.TakenValues.{Taken, taken_on_board, taken_once, taken_needs, taken_rooms, taken_state, same_state}
use Rattle.search.proofs.Spending.{Tried, spent, spent_met, spent_unmet, spent_values, tried_none, tried_same, tried_possible, tried_impossible, tried_enough, tried_all}
use Rattle.search.proofs.+spend_spend_values.Goals as goal
use Rattle.search.proofs.+spend_spend_values.Goals.{spend-After-wide, spend_values-After-wide-g, spend_values-After-possible, spend_values-Then-possible, spend_values-then-possible+else-rest-eq0, spend_values-else-possible}

-- ---- spend

pub spend-returns-then-all_met : goal.spend-returns-then-all_met
spend-returns-then-all_met t c = let m = spent_met c.args.order.now c.args.grouped.now.groups c.args.grouped.now.sizes c.args.grouped.now.columns c.args.at c.args.unmet.now.needs c.args.unmet.now.rooms c.args.values.now c.args.left c.if-at-grouped.true c.requires.at_le_groups.2 (sym c.all_met.ensures ∙ c.if-all_met.true) in record { value = m.count; unmet_unchanged = refl; kept = m.kept; fact = m.last }

pub spend-returns-then-at-grouped : goal.spend-returns-then-at-grouped
spend-returns-then-at-grouped t c = let m = spent_unmet c.args.order.now c.args.grouped.now.groups c.args.grouped.now.sizes c.args.grouped.now.columns c.args.at c.args.unmet.now.needs c.args.unmet.now.rooms c.args.values.now c.args.left c.if-at-grouped.true c.requires.at_le_groups.2 (sym c.all_met.ensures ∙ c.if-all_met.false) in record { value = m.count; unmet_unchanged = refl; kept = m.kept; fact = m.last }

-- the group whose values are tried
spend_here : (t : ℕ) (c : spend-After-wide t) → Group c.args.order.now c.args.grouped.now.groups c.args.grouped.now.equations c.args.grouped.now.sizes c.args.grouped.now.columns c.args.at c.wide.result
spend_here t c = group_at c.args.at c.wide.result c.requires.ordered (omega (arith, c.requires.at_le_groups.0, c.if-at-grouped.false)) c.wide.ensures

pub spend-spend_values-requires : goal.spend-spend_values-requires
spend-spend_values-requires t c =
    let here = spend_here t (goal.at.spend-spend_values-requires t c).After-wide in
    (omega (arith, here.inside), (c.requires.ordered, (c.requires.state, (here.inside, group_small here, c.requires.at_le_groups.1, c.requires.at_le_groups.2))))

pub spend-returns : goal.spend-returns
spend-returns t c =
    let e = c.spend_values.ensures in
    let m = spent_values (spend_here t (goal.at.spend-returns t c).After-wide) c.args.unmet.now.needs c.args.unmet.now.rooms _ refl (spent c.args.left e.value e.kept e.fact) in record { value = m.count; unmet_unchanged = e.unmet_unchanged; kept = m.kept; fact = m.last }

-- ---- spend_values

-- the group whose values are tried
here : (t : ℕ) (c : spend_values-After-wide-g t) → Group c.args.order.now c.args.grouped.now.groups c.args.grouped.now.equations c.args.grouped.now.sizes c.args.grouped.now.columns c.args.at c.wide-g.result
here t c = group_at c.args.at c.wide-g.result c.requires.ordered c.requires.at_lt_groups.0 c.wide-g.ensures

-- the state before each value
state : (t : ℕ) (c : spend_values-After-possible t) → State c.args.grouped.now.equations c.loop-v.unmet.needs c.loop-v.unmet.rooms
state t c = same_state c.requires.state c.loop-v.invariant.tried.same

-- a value that is possible
taken : (t : ℕ) (o : spend_values-After-possible t) → o.possible.result ≡ true
    → Taken o.args.order.now o.args.grouped.now.groups o.args.grouped.now.equations o.args.grouped.now.sizes o.args.grouped.now.columns o.args.at o.wide-g.result o.loop-v.unmet.needs o.loop-v.unmet.rooms o.loop-v.v o.args.to o.slots_at-list.result
taken t o can =
    record {
      here = here t (goal.at.spend_values-After-possible t o).After-wide-g;
      state = state t o;
      within = o.loop-v-test.true;
      column = o.slots_at-list.ensures;
      can = sym o.possible.ensures ∙ can;
    }

pub spend_values-loop-v-init : goal.spend_values-loop-v-init
spend_values-loop-v-init t c = record {
  inside = omega arith;
  some = c.requires.at_lt_groups.3;
  tried = tried_none (here t (goal.at.spend_values-loop-v-init t c).After-wide-g) c.args.from c.args.unmet.now c.args.values.now c.args.left c.requires.at_lt_groups.3;
}

pub spend_values-possible-requires : goal.spend_values-possible-requires
spend_values-possible-requires t c =
    let group = here t (goal.at.spend_values-possible-requires t c).After-wide-g in
    let s = same_state c.requires.state c.loop-v.invariant.tried.same in
    record { on_board = column_on_board group _ c.slots_at-list.ensures; size_bound = (group_small group, omega (arith, c.loop-v-test.true, c.requires.at_lt_groups.1), s.needs_small, s.rooms_small) }

pub spend_values-bounds-values-g : goal.spend_values-bounds-values-g
spend_values-bounds-values-g t c = group_place (here t (goal.at.spend_values-bounds-values-g t c).After-wide-g)

pub spend_values-set_group-requires : goal.spend_values-set_group-requires
spend_values-set_group-requires t c =
    let k = taken t (goal.at.spend_values-set_group-requires t c).After-possible c.if-possible.true in
    record { on_board = taken_on_board k; once = taken_once k; enough_needs = taken_needs k; enough_rooms = taken_rooms k }

pub spend_values-spend-rest-requires : goal.spend_values-spend-rest-requires
spend_values-spend-rest-requires t c =
    let k = taken t (goal.at.spend_values-spend-rest-requires t c).After-possible c.if-possible.true in
    (omega (arith, k.here.inside), (c.requires.ordered, (taken_state k c.set_group.ensures.needs_after c.set_group.ensures.rooms_after, (omega (arith, k.here.inside), search rules, c.loop-v.invariant.some))))

pub spend_values-unset_group-requires : goal.spend_values-unset_group-requires
spend_values-unset_group-requires t c =
    let k = taken t (goal.at.spend_values-unset_group-requires t c).After-possible c.if-possible.true in
    let s = same_state (taken_state k c.set_group.ensures.needs_after c.set_group.ensures.rooms_after) c.spend-rest.ensures.unmet_unchanged in
    record { on_board = taken_on_board k; size_bound = (group_small k.here, omega (arith, k.within, c.requires.at_lt_groups.1), s.needs_small, s.rooms_small) }

pub spend_values-returns-then-rest-eq0 : goal.spend_values-returns-then-rest-eq0
spend_values-returns-then-rest-eq0 t c =
    let k = taken t (goal.at.spend_values-returns-then-rest-eq0 t c).After-possible c.if-possible.true in
    let loop = c.loop-v in
    let e = c.spend-rest.ensures in
    let next = tried_possible k loop.auto.v (search rules) loop.invariant.tried c.set_group.ensures.needs_after c.set_group.ensures.rooms_after e.unmet_unchanged c.unset_group.ensures.needs_after c.unset_group.ensures.rooms_after (spent loop.rest e.value e.kept e.fact) in
    let m = tried_enough k.here c.args.from next c.args.to (omega (arith, loop.auto.v)) (omega (arith, c.loop-v-test.true)) c.if-rest-eq0.true in
    record { value = m.count; unmet_unchanged = next.same; kept = m.kept; fact = m.last }

pub spend_values-loop-v-preserved : goal.spend_values-loop-v-preserved
spend_values-loop-v-preserved t c =
    let loop = c.loop-v in
    let group = here t (goal.at.spend_values-loop-v-preserved t c).After-wide-g in
    elim c.if-possible.branch [
      | spend_values-then-possible+else-rest-eq0 w ↦
          let k = taken t (goal.at.spend_values-loop-v-preserved t c).After-possible w.if-possible.true in
          let e = w.spend-rest.ensures in
          record {
            inside = omega (arith, c.loop-v-test.true, loop.auto.v);
            some = omega (arith, w.rest-is, w.if-rest-eq0.false);
            tried = tried_same w.unmet-is w.values-is w.rest-is (tried_possible k loop.auto.v (search rules) loop.invariant.tried w.set_group.ensures.needs_after w.set_group.ensures.rooms_after e.unmet_unchanged w.unset_group.ensures.needs_after w.unset_group.ensures.rooms_after (spent loop.rest e.value e.kept e.fact));
          }
      | spend_values-else-possible w ↦ record {
        inside = omega (arith, c.loop-v-test.true, loop.auto.v);
        some = rw w.rest-is loop.invariant.some;
        tried = tried_same w.unmet-is w.values-is w.rest-is (tried_impossible group c.args.from loop.invariant.tried loop.auto.v _ (column_is group _ c.slots_at-list.ensures) (sym c.possible.ensures ∙ w.if-possible.false));
      }
    ]

-- the last value
pub spend_values-returns-after-possible : goal.spend_values-returns-after-possible
spend_values-returns-after-possible t c =
    let loop = c.loop-v in
    let group = here t (goal.at.spend_values-returns-after-possible t c).After-wide-g in
    let next : Tried c.args.order.now c.args.grouped.now.groups c.args.grouped.now.sizes c.args.grouped.now.columns c.args.at c.args.from (loop.v + 1) c.args.unmet.now c.if-possible.unmet c.args.values.now c.if-possible.values c.args.left c.if-possible.rest =
    elim c.if-possible.branch [
      | spend_values-then-possible+else-rest-eq0 w ↦
          let k = taken t (goal.at.spend_values-returns-after-possible t c).After-possible w.if-possible.true in
          let e = w.spend-rest.ensures in
          tried_same w.unmet-is w.values-is w.rest-is (tried_possible k loop.auto.v (search rules) loop.invariant.tried w.set_group.ensures.needs_after w.set_group.ensures.rooms_after e.unmet_unchanged w.unset_group.ensures.needs_after w.unset_group.ensures.rooms_after (spent loop.rest e.value e.kept e.fact))
      | spend_values-else-possible w ↦
          tried_same w.unmet-is w.values-is w.rest-is (tried_impossible group c.args.from loop.invariant.tried loop.auto.v _ (column_is group _ c.slots_at-list.ensures) (sym c.possible.ensures ∙ w.if-possible.false))
    ] in
    let m = tried_all group c.args.from next c.args.to (omega arith) (omega (arith, c.loop-v-test.true, loop.auto.v)) in
    record { value = m.count; unmet_unchanged = next.same; kept = m.kept; fact = m.last }

-- no value, or none from the first on
pub spend_values-returns : goal.spend_values-returns
spend_values-returns t c =
    let loop = c.loop-v in
    let m = tried_all (here t (goal.at.spend_values-returns t c).After-wide-g) c.args.from loop.invariant.tried c.args.to c.loop-v-test.false loop.invariant.inside in
    record { value = m.count; unmet_unchanged = loop.invariant.tried.same; kept = m.kept; fact = m.last }
