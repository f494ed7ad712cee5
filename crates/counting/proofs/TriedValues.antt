-- The loop over the values of a group: what it has told of those tried so far, from none to all. A value that the group's equations cannot take adds nothing; one
-- that they can adds what the walk over the groups behind it told, with the value noted. The table stays right all the while. Rests on WalkedRows and
-- Tables. Assumes nothing.
use mathlib.Core.Path.{◌≡◌, refl, sym, ap, ◌∙◌}
use mathlib.Core.Bool.{Bool, true, false, ◌&&◌, ◌||◌, or-true, or-false}
use mathlib.Core.List.{List, map}
use Prim.Native.Nat.{ℕ, suc, ◌+◌, ◌-◌, ◌≤◌}
use native.Mathlib.Omega.{arith}
use lib.Dec.{ltb, eqb}
use lib.ListN.{get_or}
use Rattle.lists.specs.Lists.{all}
use Rattle.grid.specs.declared.window.UpToEight.{UpToEight}
use Rattle.blocks.specs.BlockSets.{slot_cells}
use Rattle.search.specs.Solutions.{sum}
use Rattle.search.specs.Trees.{lowered, possible}
use Rattle.search.specs.declared.Unmet.{Unmet}
use Rattle.search.specs.Searching.{raised, unset, unset_of, tree_at, tree_from}
use Rattle.search.proofs.OrderedGroups.{Group, unset_none, unset_more}
use Rattle.search.proofs.Branches.{tree_leaf, tree_values}
use Rattle.search.proofs.FirstValues.{values_none, values_impossible, values_possible}
use Rattle.search.proofs.TakenValues.{places, Taken, taken_column, back}
use Rattle.counting.specs.Counting.{Marked, Walked}
use Rattle.counting.specs.declared.states.Met.{Met}
use Rattle.counting.specs.declared.walking.Counted.{Counted}
use Rattle.counting.specs.declared.walking.Walk.{Walk}
use Rattle.counting.specs.Walks.{CourseOf, UnderwayOf, StaysRight, WalkedOf}
use Rattle.counting.proofs.Marks.{marked_nowhere, marked_same}
use Rattle.counting.proofs.WalkedRows.{grown_same, grown_marked, walked_none, walked_leaf, walked_more, walked_value}
use Rattle.counting.proofs.UnderwayStates.{underway_next}
use Rattle.counting.proofs.Tables.{right_grown}

-- the mines that groups can hold
abbrev pub room_of : List ℕ → List ℕ → ℕ
room_of sizes gs = sum (map (λ (g : ℕ). get_or sizes g 0) gs)

-- the groups behind one hold what is left
pub room_behind : {order : List ℕ} {groups equations : ℕ} {sizes columns : List ℕ} {at g : ℕ} (here : Group order groups equations sizes columns at g) (count v : ℕ)
    → v ≤ get_or sizes g 0 → count + room_of sizes (unset order groups at) ≤ 1024 → count + v + room_of sizes (unset order groups (at + 1)) ≤ 1024
room_behind {order} {groups} {sizes = sizes} {at = at} {g = g} here count v h few =
    let split : room_of sizes (unset order groups at) ≡ get_or sizes g 0 + room_of sizes (unset order groups (at + 1)) = ap (room_of sizes) (unset_more here) in
    omega (arith, split, few, h)

-- no group is left
pub walked_end : (order : List ℕ) (groups : ℕ) (sizes columns allowed : List ℕ) (at count : ℕ) (needs rooms reached after mined unfilled : List ℕ) (found : Bool) → at ≡ groups
    → found ≡ (all (λ n. eqb n 0) needs && eqb (get_or allowed count 0) 1) → Marked (λ x. eqb count x && found) reached after
    → Walked allowed sizes count (unset order groups at) (tree_at order groups sizes columns at needs rooms) found reached mined unfilled after mined unfilled
walked_end order groups sizes columns allowed at count needs rooms reached after mined unfilled found e is m =
    rw (tree_leaf order groups sizes columns at needs rooms e (all (λ n. eqb n 0) needs) refl, unset_none order groups at e)
    (walked_leaf (all (λ n. eqb n 0) needs) found reached after mined unfilled is m)

-- the group at a place of the walk's order, and a value that it can get
abbrev pub GroupAt : Walk → ℕ → ℕ → Type 0
GroupAt w at g = Group w.order.now w.grouped.now.groups w.grouped.now.equations w.grouped.now.sizes w.grouped.now.columns at g

abbrev pub TakenAt : Walk → ℕ → ℕ → Unmet → ℕ → UpToEight → Type 0
TakenAt w at g unmet v list =
    Taken w.order.now w.grouped.now.groups w.grouped.now.equations w.grouped.now.sizes w.grouped.now.columns at g unmet.needs unmet.rooms v (get_or w.grouped.now.sizes g 0) list

-- the first v values are tried
pub record Tried (w : Walk) (at count v : ℕ) (before unmet : Unmet) (told_before : Counted) (met_before : Met) (told : Counted) (met : Met) (found : Bool) : Type 0 where
  pub same : unmet ≡ before
  pub walked : Walked w.allowed.now w.grouped.now.sizes count (unset_of w.grouped.now w.order.now at)
      (tree_from w.order.now w.grouped.now.groups w.grouped.now.sizes w.grouped.now.columns at 0 (v - 0) before.needs before.rooms) found told_before.reached told_before.mined told_before.unfilled told.reached told.mined told.unfilled
  pub right : StaysRight w at before met_before told_before met told

-- the same of equal values
pub tried_same : {w : Walk} {at count v : ℕ} {before unmet unmet' : Unmet} {told_before : Counted} {met_before : Met} {told told' : Counted} {met met' : Met} {found found' : Bool}
    → unmet' ≡ unmet → told' ≡ told → met' ≡ met → found' ≡ found
    → Tried w at count v before unmet told_before met_before told met found → Tried w at count v before unmet' told_before met_before told' met' found'
tried_same u t m f s = rw (u, t, m, f) s

module _ {w : Walk} {at count g : ℕ} (here : GroupAt w at g) where
  -- none
  pub tried_none : (unmet : Unmet) (told : Counted) (met : Met) → Tried w at count 0 unmet unmet told met told met false
  tried_none unmet told met = record {
    same = refl;
    walked = rw (values_none here unmet.needs unmet.rooms 0) (walked_none (unset_of w.grouped.now w.order.now at) told.reached told.mined told.unfilled);
    right = λ c u r. r;
  }

  module _ {v : ℕ} {before unmet : Unmet} {told_before : Counted} {met_before : Met} {told : Counted} {met : Met} {found : Bool}
      (s : Tried w at count v before unmet told_before met_before told met found) where
    -- all
    pub tried_all : v ≡ suc (get_or w.grouped.now.sizes g 0) → WalkedOf w at count before found told_before told
    tried_all e = let all_values : suc (get_or w.grouped.now.sizes g 0) ≡ v = omega (arith, e) in rw (tree_values here before.needs before.rooms (get_or w.grouped.now.sizes g 0) refl, all_values) s.walked

    -- one that is not possible
    pub tried_impossible : (es : List ℕ) → es ≡ slot_cells w.grouped.now.columns g → possible (get_or w.grouped.now.sizes g 0) es unmet.needs unmet.rooms v ≡ false
        → Tried w at count (v + 1) before unmet told_before met_before told met found
    tried_impossible es column e = record {
      same = s.same;
      walked = rw (values_impossible here before.needs before.rooms 0 v (omega arith) es column (rw s.same at e)) s.walked;
      right = s.right;
    }

-- one that is possible
module _ {w : Walk} {at count g v : ℕ} {list : UpToEight} {before unmet down : Unmet} {told_before : Counted} {met_before : Met} {told : Counted} {met : Met} {found : Bool}
    (k : TakenAt w at g unmet v list) (s : Tried w at count v before unmet told_before met_before told met found)
    (low_needs : down.needs ≡ lowered v (places list) unmet.needs) (low_rooms : down.rooms ≡ lowered (get_or w.grouped.now.sizes g 0) (places list) unmet.rooms) where
  -- the state behind it
  pub tried_behind : (c : CourseOf w) → UnderwayOf w c at before → UnderwayOf w c (at + 1) down
  tried_behind c u = underway_next c (rw s.same u) k (omega arith) low_needs low_rooms

  -- what the walk behind it told
  module _ {same up : Unmet} {told_below : Counted} {met_below : Met} {below : Bool} (kept : same ≡ down) (up_needs : up.needs ≡ raised v (places list) same.needs) (up_rooms : up.rooms ≡ raised (get_or w.grouped.now.sizes g 0) (places list) same.rooms)
      (e : WalkedOf w (at + 1) (count + v) down below told told_below) (stays : StaysRight w (at + 1) down met told met_below told_below) where
    tried_possible : {told_after : Counted} {found' : Bool} → told_after.reached ≡ told_below.reached
        → Marked (λ x. below && (eqb g x && ltb 0 v)) told_below.mined told_after.mined → Marked (λ x. below && (eqb g x && ltb v (get_or w.grouped.now.sizes g 0))) told_below.unfilled told_after.unfilled → found' ≡ (found || below)
        → Tried w at count (v + 1) before up told_before met_before told_after met_below found'
    tried_possible {told_after} r m u either = record {
      same = back k low_needs low_rooms kept up_needs up_rooms ∙ s.same;
      walked = rw (values_possible k.here before.needs before.rooms 0 v (omega arith) (places list) (taken_column k) (rw s.same at k.can), either, r)
          (walked_more s.walked (rw (unset_more k.here) (walked_value g v (rw (low_needs, low_rooms, s.same) at e) m u)));
      right = λ c a q. rw r (right_grown c (stays c (tried_behind c a) (s.right c a q)) (grown_same told_below.reached) (grown_marked m) (grown_marked u));
    }

    -- a row counts, and the value is noted
    pub tried_found : {told_after : Counted} → below ≡ true → told_after.reached ≡ told_below.reached → Marked (λ x. eqb g x && ltb 0 v) told_below.mined told_after.mined
        → Marked (λ x. eqb g x && ltb v (get_or w.grouped.now.sizes g 0)) told_below.unfilled told_after.unfilled → Tried w at count (v + 1) before up told_before met_before told_after met_below true
    tried_found is r m u =
        tried_possible r (marked_same m (λ x. sym (ap (λ (t : Bool). t && (eqb g x && ltb 0 v)) is)))
        (marked_same u (λ x. sym (ap (λ (t : Bool). t && (eqb g x && ltb v (get_or w.grouped.now.sizes g 0))) is))) (sym (ap (λ (t : Bool). found || t) is ∙ or-true found))

    -- none does
    pub tried_unfound : below ≡ false → Tried w at count (v + 1) before up told_before met_before told_below met_below found
    tried_unfound is =
        tried_possible refl (marked_nowhere _ told_below.mined (λ x. ap (λ (t : Bool). t && (eqb g x && ltb 0 v)) is))
        (marked_nowhere _ told_below.unfilled (λ x. ap (λ (t : Bool). t && (eqb g x && ltb v (get_or w.grouped.now.sizes g 0))) is)) (sym (ap (λ (t : Bool). found || t) is ∙ or-false found))
