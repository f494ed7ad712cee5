-- `Walk::walk` and `Walk::walk_values`, which call each other, meet their contracts: a state that the table has is answered from it, and any other goes through every value
-- of its group and is then kept. The loop's invariant: the values so far are tried. The measure falls with the unset groups. Rests on Tables and TriedValues. Assumes nothing.
use Prim.Native.Nat.{ℕ, ◌+◌, ◌≤◌}
use mathlib.Core.Bool.{true}
use mathlib.Core.Path.{◌≡◌, refl, sym, ◌∙◌}
use native.Mathlib.Omega.{arith}
use Rattle.std.proofs.lemmas.Option.{cond_some}
use Rattle.search.specs.Searching.{State, unset}
use Rattle.search.proofs.OrderedGroups.{group_at, group_place, group_small, column_is, column_on_board}
use Rattle.search.proofs.TakenValues.{taken_on_board, taken_once, taken_needs, taken_rooms, taken_state, same_state}
use Rattle.counting.proofs.WalkedRows.{grown_same, grown_marked, walked_known, known_walked}
use Rattle.counting.proofs.Tables.{right_grown, right_known, right_kept}
use Rattle.counting.proofs.TriedValues.{GroupAt, TakenAt, Tried, room_of, walked_end, tried_same, tried_none, room_behind, tried_all, tried_impossible, tried_behind, tried_found, tried_unfound}
use Rattle.counting.proofs.walking.Walk.+walk_values.Goals as goal
use Rattle.counting.proofs.walking.Walk.+walk_values.Goals.{walk_values-After-wide-g, walk_values-After-possible, walk_values-then-possible+then-below, walk_values-then-possible+else-below, walk_values-else-possible}

-- ---- walk

pub walk-returns-then-at-grouped : goal.walk-returns-then-at-grouped
walk-returns-then-at-grouped t c =
    let b = c.args.self.now.grouped.now in
    let unmet = c.args.unmet.now in
    let told = c.args.told.now in
    let e = c.reach.ensures in
    record {
      walked = walked_end c.args.self.now.order.now b.groups b.sizes b.columns c.args.self.now.allowed.now c.args.at c.args.count unmet.needs unmet.rooms told.reached _ told.mined told.unfilled _ c.if-at-grouped.true e.value e.marked;
      unmet_unchanged = refl;
      right = λ k u r. right_grown k r (grown_marked e.marked) (grown_same told.mined) (grown_same told.unfilled);
    }

pub walk-returns-in-Some-found_from : goal.walk-returns-in-Some-found_from
walk-returns-in-Some-found_from t c =
    let (k, u, r) = c.requires.underway in
    let (held, found) = cond_some _ _ _ (sym c.found_from.ensures ∙ c.in-Some-found_from.is) in
    let known = right_known k r (omega (arith, c.requires.at_le_groups.0, c.if-at-grouped.false)) (omega (arith, c.requires.at_le_groups.1)) u c.place_of-place.result _ c.in-Some.key refl c.in-Some.ensures held in
    record { walked = rw (← found) (walked_known known); unmet_unchanged = refl; right = λ k u r. r }

pub walk-returns : goal.walk-returns
walk-returns t c =
    let e = c.walk_values-found.ensures in
    let kept = c.keep_state.ensures in
    record {
      walked = e.walked;
      unmet_unchanged = e.unmet_unchanged;
      right = λ k u r.
          rw (kept.tags_after, kept.keys_after, kept.results_after)
          (right_kept k (e.right k u r) (omega (arith, c.requires.at_le_groups.0, c.if-at-grouped.false)) (omega (arith, c.requires.at_le_groups.1)) u c.place_of-place.result _ c.in-Some.key refl c.in-Some.ensures
          _ (known_walked e.walked) c.place_of-place.ensures c.args.self.now.ordered.few);
    }

-- ---- walk_values

-- the group whose values are tried
here : (t : ℕ) (c : walk_values-After-wide-g t)
    → GroupAt c.args.self.now c.args.at c.wide-g.result
here t c = group_at c.args.at c.wide-g.result c.args.self.now.ordered c.requires.at_lt_groups.0 c.wide-g.ensures

-- the state before each value
state : (t : ℕ) (c : walk_values-After-possible t) → State c.args.self.now.grouped.now.equations c.loop-v.unmet.needs c.loop-v.unmet.rooms
state t c = same_state c.requires.underway.1.state c.loop-v.invariant.same

-- a value that is possible
taken : (t : ℕ) (o : walk_values-After-possible t) → o.possible.result ≡ true
    → TakenAt o.args.self.now o.args.at o.wide-g.result o.loop-v.unmet o.loop-v.v o.slots_at-list.result
taken t o can =
    record {
      here = here t (goal.at.walk_values-After-possible t o).After-wide-g;
      state = state t o;
      within = o.loop-v-test.true;
      column = o.slots_at-list.ensures;
      can = sym o.possible.ensures ∙ can;
    }

pub walk_values-bounds-self-g : goal.walk_values-bounds-self-g
walk_values-bounds-self-g t c = group_place (here t (goal.at.walk_values-bounds-self-g t c).After-wide-g)

pub walk_values-slots_at-list-requires : goal.walk_values-slots_at-list-requires
walk_values-slots_at-list-requires t c = (c.args.self.now.ordered.whole_columns, group_place (here t (goal.at.walk_values-slots_at-list-requires t c).After-wide-g))

pub walk_values-loop-v-init : goal.walk_values-loop-v-init
walk_values-loop-v-init t c = tried_none (here t (goal.at.walk_values-loop-v-init t c).After-wide-g) c.args.unmet.now c.args.told.now c.args.met.now

pub walk_values-possible-requires : goal.walk_values-possible-requires
walk_values-possible-requires t c =
    let group = here t (goal.at.walk_values-possible-requires t c).After-wide-g in
    let s = same_state c.requires.underway.1.state c.loop-v.invariant.same in
    let small = group_small group in
    record { on_board = column_on_board group _ c.slots_at-list.ensures; size_bound = (small, omega (arith, c.loop-v-test.true, small), s.needs_small, s.rooms_small) }

pub walk_values-set_group-requires : goal.walk_values-set_group-requires
walk_values-set_group-requires t c =
    let k = taken t (goal.at.walk_values-set_group-requires t c).After-possible c.if-possible.true in
    record { on_board = taken_on_board k; once = taken_once k; enough_needs = taken_needs k; enough_rooms = taken_rooms k }

pub walk_values-walk-below-requires : goal.walk_values-walk-below-requires
walk_values-walk-below-requires t c =
    let k = taken t (goal.at.walk_values-walk-below-requires t c).After-possible c.if-possible.true in
    let loop = c.loop-v in
    let (course, u, r) = c.requires.underway in
    let inside = k.here.inside in
    let counted : c.args.count + c.wide_byte.result + room_of c.args.self.now.grouped.now.sizes (unset c.args.self.now.order.now c.args.self.now.grouped.now.groups (c.args.at + 1)) ≤ 1024 = rw c.wide_byte.ensures.0 (room_behind k.here c.args.count loop.v k.within c.requires.at_lt_groups.1) in
    (omega (arith, inside), ((omega (arith, inside), counted), (course, tried_behind k loop.invariant c.set_group.ensures.needs_after c.set_group.ensures.rooms_after course u, loop.invariant.right course u r)))

pub walk_values-unset_group-requires : goal.walk_values-unset_group-requires
walk_values-unset_group-requires t c =
    let k = taken t (goal.at.walk_values-unset_group-requires t c).After-possible c.if-possible.true in
    let s = same_state (taken_state k c.set_group.ensures.needs_after c.set_group.ensures.rooms_after) c.walk-below.ensures.unmet_unchanged in
    let small = group_small k.here in
    record { on_board = taken_on_board k; size_bound = (small, omega (arith, k.within, small), s.needs_small, s.rooms_small) }

pub walk_values-note_value-requires : goal.walk_values-note_value-requires
walk_values-note_value-requires t c = group_place (here t (goal.at.walk_values-note_value-requires t c).After-wide-g)

pub walk_values-loop-v-preserved : goal.walk_values-loop-v-preserved
walk_values-loop-v-preserved t c =
    let loop = c.loop-v in
    elim c.if-possible.branch [
      | walk_values-then-possible+then-below w ↦
          let k = taken t (goal.at.walk_values-loop-v-preserved t c).After-possible w.if-possible.true in
          let low = w.set_group.ensures in
          let e = w.walk-below.ensures in
          let up = w.unset_group.ensures in
          let noted = w.note_value.ensures in
          tried_same w.unmet-is w.told-is w.met-is w.found-is (tried_found k loop.invariant low.needs_after low.rooms_after e.unmet_unchanged up.needs_after up.rooms_after (rw w.wide_byte.ensures.0 at e.walked) e.right w.if-below.true noted.reached_unchanged noted.marked noted.marked_2)
      | walk_values-then-possible+else-below w ↦
          let k = taken t (goal.at.walk_values-loop-v-preserved t c).After-possible w.if-possible.true in
          let low = w.set_group.ensures in
          let e = w.walk-below.ensures in
          let up = w.unset_group.ensures in
          tried_same w.unmet-is w.told-is w.met-is w.found-is (tried_unfound k loop.invariant low.needs_after low.rooms_after e.unmet_unchanged up.needs_after up.rooms_after (rw w.wide_byte.ensures.0 at e.walked) e.right w.if-below.false)
      | walk_values-else-possible w ↦
          let group = here t (goal.at.walk_values-loop-v-preserved t c).After-wide-g in
          tried_same w.unmet-is w.told-is w.met-is w.found-is (tried_impossible group loop.invariant _ (column_is group _ c.slots_at-list.ensures) (sym c.possible.ensures ∙ w.if-possible.false))
    ]

-- the last value
pub walk_values-returns-after-possible : goal.walk_values-returns-after-possible
walk_values-returns-after-possible t c =
    let loop = c.loop-v in
    let next : Tried c.args.self.now c.args.at c.args.count (loop.v + 1) c.args.unmet.now c.if-possible.unmet c.args.told.now c.args.met.now c.if-possible.told c.if-possible.met c.if-possible.found =
    elim c.if-possible.branch [
      | walk_values-then-possible+then-below w ↦
          let k = taken t (goal.at.walk_values-returns-after-possible t c).After-possible w.if-possible.true in
          let low = w.set_group.ensures in
          let e = w.walk-below.ensures in
          let up = w.unset_group.ensures in
          let noted = w.note_value.ensures in
          tried_same w.unmet-is w.told-is w.met-is w.found-is (tried_found k loop.invariant low.needs_after low.rooms_after e.unmet_unchanged up.needs_after up.rooms_after (rw w.wide_byte.ensures.0 at e.walked) e.right w.if-below.true noted.reached_unchanged noted.marked noted.marked_2)
      | walk_values-then-possible+else-below w ↦
          let k = taken t (goal.at.walk_values-returns-after-possible t c).After-possible w.if-possible.true in
          let low = w.set_group.ensures in
          let e = w.walk-below.ensures in
          let up = w.unset_group.ensures in
          tried_same w.unmet-is w.told-is w.met-is w.found-is (tried_unfound k loop.invariant low.needs_after low.rooms_after e.unmet_unchanged up.needs_after up.rooms_after (rw w.wide_byte.ensures.0 at e.walked) e.right w.if-below.false)
      | walk_values-else-possible w ↦
          let group = here t (goal.at.walk_values-returns-after-possible t c).After-wide-g in
          tried_same w.unmet-is w.told-is w.met-is w.found-is (tried_impossible group loop.invariant _ (column_is group _ c.slots_at-list.ensures) (sym c.possible.ensures ∙ w.if-possible.false))
    ] in
    record {
      walked = tried_all (here t (goal.at.walk_values-returns-after-possible t c).After-wide-g) next (omega (arith, c.loop-v-test.true));
      unmet_unchanged = next.same;
      right = next.right;
    }
