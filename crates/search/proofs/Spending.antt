-- What a search that spends an allowance leaves: the allowance less the rows of its tree, values in which only the tree's groups changed and, where nothing is
-- left, those of a row. Each step of the search goes from what its calls leave to what it leaves itself. Rests on the steps of the tree. Assumes nothing.
use mathlib.Core.Path.{◌≡◌, refl, ◌∙◌}
use mathlib.Core.Bool.{true, false}
use mathlib.Core.List.Memᴰ
use mathlib.Core.List.{List, [], ◌∷◌, ◌++◌, map, Memᴰ}
use Prim.Native.Nat.{ℕ, suc, ◌+◌, ◌-◌, ◌≤◌, ◌<◌}
use native.Mathlib.Omega.{arith}
use lib.Dec.{eqb}
use lib.ListN.{length, get_or, set, length-append, length-map}
use Rattle.lists.specs.Lists.{all, has}
use Rattle.grid.specs.declared.window.UpToEight.{UpToEight}
use Rattle.blocks.specs.BlockSets.{slot_cells}
use Rattle.search.specs.Trees.{lowered, possible}
use Rattle.search.specs.declared.Unmet.{Unmet}
use Rattle.search.specs.Searching.{raised, unset, tree_at, tree_from, Kept}
use Rattle.search.proofs.OrderedGroups.{Group, unset_none, unset_more, group_once, group_place}
use Rattle.search.proofs.Branches.{tree_leaf, tree_values}
use Rattle.search.proofs.FirstValues.{values_none, values_rest, values_impossible, values_possible}
use Rattle.search.proofs.TakenValues.{places, Taken, taken_column, back}
use Rattle.search.proofs.KeptValues.{kept_same, kept_both, kept_set, kept_first}

-- the values of some groups
abbrev pub values_of : List ℕ → List ℕ → List ℕ
values_of values gs = map (λ (g : ℕ). get_or values g 0) gs

-- a search that found rows for some groups left r of an allowance
pub record Spent (rows : List (List ℕ)) (gs values after : List ℕ) (left r : ℕ) : Type 0 where
  pub count : r ≡ left - length rows
  pub kept : Kept gs values after
  pub last : r ≡ 0 → Memᴰ (values_of after gs) rows

pub spent : {rows : List (List ℕ)} {gs values after : List ℕ} {r : ℕ} (left : ℕ) → r ≡ left - length rows → Kept gs values after → (r ≡ 0 → Memᴰ (values_of after gs) rows)
    → Spent rows gs values after left r
spent left c k l = record { count = c; kept = k; last = l }

-- ---- any rows

spent_nothing : (gs values : List ℕ) (left : ℕ) → 0 < left → Spent [] gs values values left left
spent_nothing gs values left h = record { count = omega arith; kept = kept_same gs values; last = λ e. absurd (omega arith) }

spent_one : (values : List ℕ) (left : ℕ) → Spent ([] ∷ []) [] values values left (left - 1)
spent_one values left = record { count = refl; kept = kept_same [] values; last = λ e. Memᴰ.head refl }

-- a value before each row
spent_value : {rows : List (List ℕ)} {gs after : List ℕ} {left r : ℕ} (values : List ℕ) (g v : ℕ) → has gs g ≡ false → g < length values → Spent rows gs (set values g v) after left r
    → Spent (map (λ (row : List ℕ). v ∷ row) rows) (g ∷ gs) values after left r
spent_value {rows} {gs} {after} {left} {r} values g v once h s = record {
  count = omega (arith, s.count, length-map rows (λ (row : List ℕ). v ∷ row));
  kept = kept_set values g v s.kept;
  last = λ e.
      rw (kept_first values g v s.kept once h) (Memᴰ.map (λ (row : List ℕ). v ∷ row) (s.last e));
}

-- more rows after them
spent_more : {xs ys : List (List ℕ)} {gs values middle after : List ℕ} {left rest r : ℕ} → Spent xs gs values middle left rest → Spent ys gs middle after rest r
    → Spent (xs ++ ys) gs values after left r
spent_more {xs} {ys} s w = record {
  count = omega (arith, s.count, w.count, length-append xs ys);
  kept = kept_both s.kept w.kept;
  last = λ e. Memᴰ.append_right xs (w.last e);
}

-- nothing is left before they are looked for
spent_all : {xs : List (List ℕ)} {gs values after : List ℕ} {left r : ℕ} (ys : List (List ℕ)) → Spent xs gs values after left r → r ≡ 0 → Spent (xs ++ ys) gs values after left 0
spent_all {xs} ys s e = record {
  count = omega (arith, s.count, length-append xs ys);
  kept = s.kept;
  last = λ z. Memᴰ.append_left ys (s.last e);
}

-- ---- no group is left

module _ (order : List ℕ) (groups : ℕ) (sizes columns : List ℕ) (at : ℕ) (needs rooms values : List ℕ) (left : ℕ) (end : at ≡ groups) (some : 0 < left) where
  pub spent_met : all (λ n. eqb n 0) needs ≡ true → Spent (tree_at order groups sizes columns at needs rooms) (unset order groups at) values values left (left - 1)
  spent_met e = rw (tree_leaf order groups sizes columns at needs rooms end true e, unset_none order groups at end) (spent_one values left)

  pub spent_unmet : all (λ n. eqb n 0) needs ≡ false → Spent (tree_at order groups sizes columns at needs rooms) (unset order groups at) values values left left
  spent_unmet e = rw (tree_leaf order groups sizes columns at needs rooms end false e) (spent_nothing (unset order groups at) values left some)

-- ---- the values of a group

module _ {order : List ℕ} {groups equations : ℕ} {sizes columns : List ℕ} {at g : ℕ} (here : Group order groups equations sizes columns at g) (needs rooms : List ℕ) where
  pub spent_values : {values after : List ℕ} {left r : ℕ} (to : ℕ) → to ≡ get_or sizes g 0 → Spent (tree_from order groups sizes columns at 0 (suc to - 0) needs rooms) (unset order groups at) values after left r
      → Spent (tree_at order groups sizes columns at needs rooms) (unset order groups at) values after left r
  spent_values to e s = rw (tree_values here needs rooms to e) s

-- ---- the loop over the values of a group

-- the values from `low` up to v, v left out, are tried, and what is unmet is as it was before them
pub record Tried (order : List ℕ) (groups : ℕ) (sizes columns : List ℕ) (at low v : ℕ) (before unmet : Unmet) (values after : List ℕ) (left rest : ℕ) : Type 0 where
  pub same : unmet ≡ before
  pub spent : Spent (tree_from order groups sizes columns at low (v - low) before.needs before.rooms) (unset order groups at) values after left rest

module _ {order : List ℕ} {groups equations : ℕ} {sizes columns : List ℕ} {at g : ℕ} (here : Group order groups equations sizes columns at g) (low : ℕ) where
  -- none yet
  pub tried_none : (unmet : Unmet) (values : List ℕ) (left : ℕ) → 0 < left → Tried order groups sizes columns at low low unmet unmet values values left left
  tried_none unmet values left some =
      record { same = refl; spent = rw (values_none here unmet.needs unmet.rooms low) (spent_nothing (unset order groups at) values left some) }

  module _ {v : ℕ} {before unmet : Unmet} {values after : List ℕ} {left rest : ℕ} (s : Tried order groups sizes columns at low v before unmet values after left rest) where
    -- one that is not possible
    pub tried_impossible : low ≤ v → (es : List ℕ) → es ≡ slot_cells columns g → possible (get_or sizes g 0) es unmet.needs unmet.rooms v ≡ false
        → Tried order groups sizes columns at low (v + 1) before unmet values after left rest
    tried_impossible from es column e =
        record { same = s.same; spent = rw (values_impossible here before.needs before.rooms low v from es column (rw s.same at e)) s.spent }

    -- all, from which no other follows
    pub tried_all : (to : ℕ) → to < v → v - low ≤ suc to - low → Spent (tree_from order groups sizes columns at low (suc to - low) before.needs before.rooms) (unset order groups at) values after left rest
    tried_all to past inside = let whole : suc to - low ≡ v - low = omega arith in rw whole s.spent

    -- those after which nothing is left
    pub tried_enough : (to : ℕ) → low ≤ v → v ≤ suc to → rest ≡ 0 → Spent (tree_from order groups sizes columns at low (suc to - low) before.needs before.rooms) (unset order groups at) values after left 0
    tried_enough to from within z =
        rw (values_rest here before.needs before.rooms low v (suc to) from within)
        (spent_all (tree_from order groups sizes columns at v (suc to - v) before.needs before.rooms) s.spent z)

-- the same of equal values
pub tried_same : {order : List ℕ} {groups : ℕ} {sizes columns : List ℕ} {at low v : ℕ} {before unmet unmet' : Unmet} {values after after' : List ℕ} {left rest rest' : ℕ} → unmet' ≡ unmet → after' ≡ after → rest' ≡ rest
    → Tried order groups sizes columns at low v before unmet values after left rest → Tried order groups sizes columns at low v before unmet' values after' left rest'
tried_same u a r s = rw (u, a, r) s

-- one that is possible, with what the groups behind it spend
pub tried_possible : {order : List ℕ} {groups equations : ℕ} {sizes columns : List ℕ} {at g low v to : ℕ} {list : UpToEight} {before unmet down same up : Unmet} {values tried after : List ℕ} {left rest r : ℕ}
    → Taken order groups equations sizes columns at g unmet.needs unmet.rooms v to list → low ≤ v → length tried ≡ 1024 → Tried order groups sizes columns at low v before unmet values tried left rest
    → down.needs ≡ lowered v (places list) unmet.needs → down.rooms ≡ lowered (get_or sizes g 0) (places list) unmet.rooms → same ≡ down
    → up.needs ≡ raised v (places list) same.needs → up.rooms ≡ raised (get_or sizes g 0) (places list) same.rooms
    → Spent (tree_at order groups sizes columns (at + 1) down.needs down.rooms) (unset order groups (at + 1)) (set tried g v) after rest r
    → Tried order groups sizes columns at low (v + 1) before up values after left r
tried_possible {order} {groups} {at = at} {g = g} {low = low} {v = v} {list = list} {before = before} {tried = tried} k from long s n m e p q w = record {
  same = back k n m e p q ∙ s.same;
  spent =
      rw (values_possible k.here before.needs before.rooms low v from (places list) (taken_column k) (rw s.same at k.can))
      (spent_more s.spent (rw (unset_more k.here) (spent_value tried g v (group_once k.here) (omega (arith, group_place k.here, long)) (rw (n, m, s.same) at w))));
}
