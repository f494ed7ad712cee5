-- The table of states: with tags of earlier walks alone it is right; what it holds of a state is known of it; marks that grow leave it right; and so does a state
-- kept in it once it is known, whatever stood at its place. Rests on UnderwayStates and WalkedRows. Assumes nothing.
use mathlib.Core.Path.{◌≡◌, sym, ap, ◌∙◌}
use mathlib.Core.Logic.{inl, inr}
use mathlib.Core.Bool.{true, ◌&&◌}
use mathlib.Core.List.{List}
use Prim.Native.Nat.{ℕ, ◌+◌, ◌≤◌, ◌<◌}
use native.Mathlib.Omega.{arith}
use lib.Dec.{eqb}
use lib.ListN.{length, get_or, set, length-set}
use lib.Seq.{get_or-set_same, get_or-set_other}
use borrow.Author.Tests.{eqb-true, eqb-false}
use Rattle.lists.proofs.Tests.{Decided, decided, and_left, and_right}
use Rattle.lists.proofs.Elements.{set_all}
use Rattle.search.specs.Searching.{unset, tree_at}
use Rattle.counting.specs.States.{key_of, tag_of, Course, Underway, Known, Right}
use Rattle.counting.proofs.WalkedRows.{Grown, known_grown}
use Rattle.counting.proofs.UnderwayStates.{key_tells}

module _ {order : List ℕ} {groups : ℕ} {sizes columns start_rooms : List ℕ} (c : Course order groups sizes columns start_rooms) {equations : ℕ} {allowed : List ℕ} {first : ℕ}
    {tags keys results reached mined unfilled : List ℕ} where
  -- no entry is of this walk
  pub right_start : (length tags ≡ 8192) × (length keys ≡ 8192) × (length results ≡ 8192) → ((i : ℕ) → get_or tags i 0 < first)
      → Right c equations allowed first tags keys results reached mined unfilled
  right_start l h = record { whole = l; below = λ i. omega (arith, h i); entry = λ i at count needs o p e u k. absurd (omega (arith, h i, e)) }

  module _ (right : Right c equations allowed first tags keys results reached mined unfilled) where
    -- marks grow
    pub right_grown : {reached' mined' unfilled' : List ℕ} → Grown reached reached' → Grown mined mined' → Grown unfilled unfilled'
        → Right c equations allowed first tags keys results reached' mined' unfilled'
    right_grown r m u = record {
      whole = right.whole;
      below = right.below;
      entry = λ i at count needs o p e w k. known_grown r m u (right.entry i at count needs o p e w k);
    }

    module _ {at count : ℕ} {needs rooms : List ℕ} (inside : at < groups) (few : count ≤ 1024) (state : Underway c equations at needs rooms) (place tag digits : ℕ) (is_tag : tag ≡ tag_of first at count) where
      here : Underway c equations at needs (c.rooms_at at)
      here = rw state.room at state

      module _ (is : digits ≡ key_of equations needs rooms start_rooms) where
        -- an entry with the state's tag and key
        pub right_known : (eqb (get_or tags place 0) tag && eqb (get_or keys place 0) digits) ≡ true
            → Known allowed sizes count (unset order groups at) (tree_at order groups sizes columns at needs rooms) (get_or results place 0) reached mined unfilled
        right_known held =
            let same_tag : get_or tags place 0 ≡ tag_of first at count = eqb-true _ _ (and_left _ (eqb (get_or keys place 0) digits) held) ∙ is_tag in
            let same_key : key_of equations needs rooms start_rooms ≡ get_or keys place 0 = sym (eqb-true _ _ (and_right (eqb (get_or tags place 0) tag) _ held) ∙ is) in
            rw state.room (right.entry place at count needs inside few same_tag here (rw state.room at same_key))

        -- the state is kept there
        pub right_kept : (found : ℕ) → Known allowed sizes count (unset order groups at) (tree_at order groups sizes columns at needs rooms) found reached mined unfilled → place < 8192 → groups ≤ 1024
            → Right c equations allowed first (set tags place tag) (set keys place digits) (set results place found) reached mined unfilled
        right_kept found known room fewer = record {
          whole = (length-set tags place tag ∙ right.whole.0, length-set keys place digits ∙ right.whole.1, length-set results place found ∙ right.whole.2);
          below = set_all (λ i t. t < first + 1050625) tags 0 place tag (omega (arith, is_tag, inside, few, fewer)) right.below;
          entry = λ i at' count' needs' o p e u k. go i at' count' needs' o p e u k (decided (eqb i place));
        }
          where
            go : (i at' count' : ℕ) (needs' : List ℕ) → at' < groups → count' ≤ 1024 → get_or (set tags place tag) i 0 ≡ tag_of first at' count' → Underway c equations at' needs' (c.rooms_at at')
                → key_of equations needs' (c.rooms_at at') start_rooms ≡ get_or (set keys place digits) i 0 → Decided (eqb i place)
                → Known allowed sizes count' (unset order groups at') (tree_at order groups sizes columns at' needs' (c.rooms_at at')) (get_or (set results place found) i 0) reached mined unfilled
            go i at' count' needs' o p e u k (inr n) =
                let away = eqb-false i place n in
                rw (get_or-set_other results place i found 0 away)
                (right.entry i at' count' needs' o p (sym (get_or-set_other tags place i tag 0 away) ∙ e) u (k ∙ get_or-set_other keys place i digits 0 away))
            go i at' count' needs' o p e u k (inl n) =
                let it : i ≡ place = eqb-true i place n in
                let set_tag : get_or (set tags place tag) i 0 ≡ tag = ap (λ (j : ℕ). get_or (set tags place tag) j 0) it ∙ get_or-set_same tags place tag 0 (omega (arith, right.whole.0)) in
                let set_key : get_or (set keys place digits) i 0 ≡ digits = ap (λ (j : ℕ). get_or (set keys place digits) j 0) it ∙ get_or-set_same keys place digits 0 (omega (arith, right.whole.1)) in
                let set_found : get_or (set results place found) i 0 ≡ found = ap (λ (j : ℕ). get_or (set results place found) j 0) it ∙ get_or-set_same results place found 0 (omega (arith, right.whole.2)) in
                let same_at : at' ≡ at = omega (arith, e, set_tag, is_tag, p, few) in
                let same_count : count' ≡ count = omega (arith, e, set_tag, is_tag, p, few) in
                let one_place : Underway c equations at needs' (c.rooms_at at) = rw same_at at u in
                let one_key : key_of equations needs' (c.rooms_at at) start_rooms ≡ key_of equations needs (c.rooms_at at) start_rooms =
                (rw same_at at (k ∙ set_key)) ∙ is ∙ ap (λ (l : List ℕ). key_of equations needs l start_rooms) state.room in
                rw (same_at, same_count, set_found, key_tells c one_place here one_key) (rw state.room at known)
