-- Rows written into a table one after another, each as wide as there are groups: what a search that writes the rows of its tree leaves, and each step of the
-- search, from what its calls leave to what it leaves itself. Rests on the law of runs of stores and on the steps of the tree. Assumes nothing.
use mathlib.Core.Path.{◌≡◌, refl, sym, ap, ◌∙◌}
use mathlib.Core.Bool.{true, false}
use mathlib.Core.List.Memᴰ
use mathlib.Core.List.{List, [], ◌∷◌, ◌++◌, map, map-append, map-map, append-nil}
use Prim.Native.Nat.{ℕ, suc, ◌+◌, ◌-◌, ◌*◌, ◌≤◌, ◌<◌}
use native.Mathlib.Nat.{add-mul, suc-mul, zero-mul, mul-le-mul_left, mul-le-mul_right}
use native.Mathlib.Omega.{arith}
use lib.Dec.{eqb}
use lib.ListN.{length, get_or, take, set, length-append, length-map}
use lib.Seq.{sets, length-take-le}
use Rattle.lists.specs.Lists.{all, joined}
use Rattle.lists.proofs.Joined.{joined_append}
use Rattle.lists.proofs.Stores.{sets_append}
use Rattle.grid.specs.declared.window.UpToEight.{UpToEight}
use Rattle.lists.proofs.PassingElements.{Each, each_mapped}
use Rattle.blocks.specs.BlockSets.{slot_cells}
use Rattle.search.specs.Trees.{lowered, possible}
use Rattle.search.specs.declared.Unmet.{Unmet}
use Rattle.search.specs.Searching.{raised, unset, tree_at, tree_from, placed, Kept}
use Rattle.search.proofs.OrderedGroups.{Group, unset_none, unset_more}
use Rattle.search.proofs.Branches.{tree_leaf, tree_values, tree_at_wide}
use Rattle.search.proofs.FirstValues.{values_none, values_rest, values_impossible, values_possible}
use Rattle.search.proofs.TakenValues.{places, Taken, taken_column, back}
use Rattle.search.proofs.KeptValues.{kept_same, kept_both, kept_set, placed_kept}
use Rattle.search.proofs.Orders.{length_placed}

-- ---- any rows

-- a row of values for some groups, as it stands in the table
abbrev pub row_of : ℕ → List ℕ → List ℕ → List ℕ → List ℕ
row_of groups values gs w = take groups (placed values gs w)

-- a search that found rows for some groups wrote them from a row of the table on
pub record Written (groups : ℕ) (rows : List (List ℕ)) (gs values after table out : List ℕ) (row next : ℕ) : Type 0 where
  pub count : next ≡ row + length rows
  pub wrote : out ≡ sets table (row * groups) (joined (map (row_of groups values gs) rows))
  pub kept : Kept gs values after

written_nothing : (groups : ℕ) (gs values table : List ℕ) (row : ℕ) → Written groups [] gs values values table table row row
written_nothing groups gs values table row = record { count = omega arith; wrote = refl; kept = kept_same gs values }

written_one : (groups : ℕ) (values table out : List ℕ) (row : ℕ) → out ≡ sets table (row * groups) (take groups values) → Written groups ([] ∷ []) [] values values table out row (row + 1)
written_one groups values table out row e =
    record { count = refl; wrote = e ∙ ap (sets table (row * groups)) (sym (append-nil (take groups values))); kept = kept_same [] values }

-- a value before each row
written_value : {groups : ℕ} {rows : List (List ℕ)} {gs after table out : List ℕ} {row next : ℕ} (values : List ℕ) (g v : ℕ) → Written groups rows gs (set values g v) after table out row next
    → Written groups (map (λ (w : List ℕ). v ∷ w) rows) (g ∷ gs) values after table out row next
written_value {groups} {rows} {gs} {table = table} {row = row} values g v s = record {
  count = omega (arith, s.count, length-map rows (λ (w : List ℕ). v ∷ w));
  wrote = s.wrote ∙ ap (λ (ls : List (List ℕ)). sets table (row * groups) (joined ls)) (sym (map-map (row_of groups values (g ∷ gs)) (λ (w : List ℕ). v ∷ w) rows));
  kept = kept_set values g v s.kept;
}

-- each row is as wide as there are groups
rows_long : (groups : ℕ) (values gs : List ℕ) → groups ≤ length values → (rows : List (List ℕ)) → length (joined (map (row_of groups values gs) rows)) ≡ length rows * groups
rows_long groups values gs h [] = rw zero-mul
rows_long groups values gs h (w ∷ rows) =
    omega (
      arith,
      length-append (row_of groups values gs w) (joined (map (row_of groups values gs) rows)),
      length-take-le groups (placed values gs w) (omega (arith, length_placed values gs w)),
      rows_long groups values gs h rows,
      suc-mul (length rows) groups,
    )

-- what was changed of the groups that the rows set plays no part
rows_kept : (groups : ℕ) (gs a b : List ℕ) → Kept gs a b → (rows : List (List ℕ)) → Each (λ w. length w ≡ length gs) rows → map (row_of groups b gs) rows ≡ map (row_of groups a gs) rows
rows_kept groups gs a b k [] h = refl
rows_kept groups gs a b k (w ∷ rows) h =
    rw (placed_kept gs w a b k (h w (Memᴰ.head refl)), rows_kept groups gs a b k rows (λ x m. h x (Memᴰ.tail m)))

-- more rows after them
written_more : {groups : ℕ} {xs ys : List (List ℕ)} {gs values middle after table between out : List ℕ} {row next last : ℕ} → groups ≤ length values → Each (λ w. length w ≡ length gs) ys
    → Written groups xs gs values middle table between row next → Written groups ys gs middle after between out next last → Written groups (xs ++ ys) gs values after table out row last
written_more {groups} {xs} {ys} {gs} {values} {middle} {table = table} {between = between} {row = row} {next = next} few wide s w =
    let place : next * groups ≡ row * groups + length (joined (map (row_of groups values gs) xs)) =
    ap (λ (n : ℕ). n * groups) s.count ∙ add-mul row (length xs) groups ∙ ap (λ (n : ℕ). row * groups + n) (sym (rows_long groups values gs few xs)) in
    record {
      count = omega (arith, s.count, w.count, length-append xs ys);
      wrote = w.wrote
          ∙ ap (λ (ls : List (List ℕ)). sets between (next * groups) (joined ls)) (rows_kept groups gs values middle s.kept ys wide)
          ∙ ap (λ (t : List ℕ). sets t (next * groups) (joined (map (row_of groups values gs) ys))) s.wrote
          ∙ ap (λ (i : ℕ). sets (sets table (row * groups) (joined (map (row_of groups values gs) xs))) i (joined (map (row_of groups values gs) ys))) place
          ∙ sym (sets_append table (row * groups) (joined (map (row_of groups values gs) xs)) (joined (map (row_of groups values gs) ys)))
          ∙ ap (sets table (row * groups)) (sym (ap joined (map-append (row_of groups values gs) xs ys) ∙ joined_append (map (row_of groups values gs) xs) (map (row_of groups values gs) ys)));
      kept = kept_both s.kept w.kept;
    }

pub written : {rows : List (List ℕ)} {gs values after out : List ℕ} {next : ℕ} (groups : ℕ) (table : List ℕ) (row : ℕ) → next ≡ row + length rows → out ≡ sets table (row * groups) (joined (map (row_of groups values gs) rows)) → Kept gs values after
    → Written groups rows gs values after table out row next
written groups table row c w k = record { count = c; wrote = w; kept = k }

-- the same groups, or the same rows, by another name
pub written_among : {groups : ℕ} {rows : List (List ℕ)} {gs hs values after table out : List ℕ} {row next : ℕ} → gs ≡ hs → Written groups rows hs values after table out row next
    → Written groups rows gs values after table out row next
written_among e s = rw e s

pub written_same : {groups : ℕ} {xs ys : List (List ℕ)} {gs values after table out : List ℕ} {row next : ℕ} → xs ≡ ys → Written groups ys gs values after table out row next
    → Written groups xs gs values after table out row next
written_same e s = rw e s

-- ---- no group is left

module _ (order : List ℕ) (groups : ℕ) (sizes columns : List ℕ) (at : ℕ) (needs rooms values table : List ℕ) (row : ℕ) (end : at ≡ groups) where
  -- one row more
  pub leaf_one : all (λ n. eqb n 0) needs ≡ true → length (tree_at order groups sizes columns at needs rooms) ≡ 1
  leaf_one e = ap length (tree_leaf order groups sizes columns at needs rooms end true e)

  pub written_met : (out : List ℕ) → all (λ n. eqb n 0) needs ≡ true → out ≡ sets table (row * groups) (take groups values)
      → Written groups (tree_at order groups sizes columns at needs rooms) (unset order groups at) values values table out row (row + 1)
  written_met out e w = rw (tree_leaf order groups sizes columns at needs rooms end true e, unset_none order groups at end) (written_one groups values table out row w)

  pub written_unmet : all (λ n. eqb n 0) needs ≡ false → Written groups (tree_at order groups sizes columns at needs rooms) (unset order groups at) values values table table row row
  written_unmet e = rw (tree_leaf order groups sizes columns at needs rooms end false e) (written_nothing groups (unset order groups at) values table row)

-- ---- the loop over the values of a group

-- the first v values are tried, and what is unmet is as it was before them
pub record TriedRows (order : List ℕ) (groups : ℕ) (sizes columns : List ℕ) (at v : ℕ) (before unmet : Unmet) (values after table out : List ℕ) (row next : ℕ) : Type 0 where
  pub same : unmet ≡ before
  pub rows : Written groups (tree_from order groups sizes columns at 0 (v - 0) before.needs before.rooms) (unset order groups at) values after table out row next

module _ {order : List ℕ} {groups equations : ℕ} {sizes columns : List ℕ} {at g : ℕ} (here : Group order groups equations sizes columns at g) where
  -- none yet
  pub tried_none : (unmet : Unmet) (values table : List ℕ) (row : ℕ) → TriedRows order groups sizes columns at 0 unmet unmet values values table table row row
  tried_none unmet values table row =
      record { same = refl; rows = rw (values_none here unmet.needs unmet.rooms 0) (written_nothing groups (unset order groups at) values table row) }

  module _ {v : ℕ} {before unmet : Unmet} {values after table out : List ℕ} {row next : ℕ} (s : TriedRows order groups sizes columns at v before unmet values after table out row next) where
    -- one that is not possible
    pub tried_impossible : (es : List ℕ) → es ≡ slot_cells columns g → possible (get_or sizes g 0) es unmet.needs unmet.rooms v ≡ false
        → TriedRows order groups sizes columns at (v + 1) before unmet values after table out row next
    tried_impossible es column e =
        record { same = s.same; rows = rw (values_impossible here before.needs before.rooms 0 v (omega arith) es column (rw s.same at e)) s.rows }

    -- all
    pub tried_all : v ≡ suc (get_or sizes g 0) → Written groups (tree_at order groups sizes columns at before.needs before.rooms) (unset order groups at) values after table out row next
    tried_all e = let all_values : suc (get_or sizes g 0) ≡ v = omega (arith, e) in rw (tree_values here before.needs before.rooms (get_or sizes g 0) refl, all_values) s.rows

-- the same of equal values
pub tried_same : {order : List ℕ} {groups : ℕ} {sizes columns : List ℕ} {at v : ℕ} {before unmet unmet' : Unmet} {values after after' table out out' : List ℕ} {row next next' : ℕ}
    → unmet' ≡ unmet → after' ≡ after → out' ≡ out → next' ≡ next
    → TriedRows order groups sizes columns at v before unmet values after table out row next → TriedRows order groups sizes columns at v before unmet' values after' table out' row next'
tried_same u a o n s = rw (u, a, o, n) s

-- one that is possible: its rows are written after those before it
module _ {order : List ℕ} {groups equations : ℕ} {sizes columns : List ℕ} {at g v : ℕ} {list : UpToEight} {before unmet down : Unmet} {values tried table out : List ℕ} {row next : ℕ}
    (k : Taken order groups equations sizes columns at g unmet.needs unmet.rooms v (get_or sizes g 0) list) (s : TriedRows order groups sizes columns at v before unmet values tried table out row next)
    (n : down.needs ≡ lowered v (places list) unmet.needs) (m : down.rooms ≡ lowered (get_or sizes g 0) (places list) unmet.rooms) where
  below : tree_at order groups sizes columns (at + 1) (lowered v (places list) before.needs) (lowered (get_or sizes g 0) (places list) before.rooms)
      ≡ tree_at order groups sizes columns (at + 1) down.needs down.rooms
  below = rw (n, m, s.same)

  more : tree_from order groups sizes columns at 0 (v + 1 - 0) before.needs before.rooms
      ≡ tree_from order groups sizes columns at 0 (v - 0) before.needs before.rooms ++ map (λ (w : List ℕ). v ∷ w) (tree_at order groups sizes columns (at + 1) down.needs down.rooms)
  more = rw (← below) (values_possible k.here before.needs before.rooms 0 v (omega arith) (places list) (taken_column k) (rw s.same at k.can))

  pub tried_possible : {same up : Unmet} {after written : List ℕ} {last : ℕ} → length values ≡ 1024
      → same ≡ down → up.needs ≡ raised v (places list) same.needs → up.rooms ≡ raised (get_or sizes g 0) (places list) same.rooms
      → Written groups (tree_at order groups sizes columns (at + 1) down.needs down.rooms) (unset order groups (at + 1)) (set tried g v) after out written next last
      → TriedRows order groups sizes columns at (v + 1) before up values after table written row last
  tried_possible long e p q w = record {
    same = back k n m e p q ∙ s.same;
    rows =
        rw more
        (written_more (omega (arith, k.here.ordered.few, long))
        (each_mapped (λ (w : List ℕ). length w ≡ length (unset order groups at)) (λ (w : List ℕ). v ∷ w) (tree_at order groups sizes columns (at + 1) down.needs down.rooms)
        (λ w i. rw (unset_more k.here) (ap suc (tree_at_wide order groups sizes columns (at + 1) down.needs down.rooms w i))))
        s.rows (rw (unset_more k.here) (written_value tried g v w)));
  }

  -- there is room for them
  pub room_below : (row + length (tree_at order groups sizes columns at before.needs before.rooms)) * groups ≤ length table → length out ≡ length table
      → (next + length (tree_at order groups sizes columns (at + 1) down.needs down.rooms)) * groups ≤ length out
  room_below fits kept =
      let front = values_rest k.here before.needs before.rooms 0 (v + 1) (suc (get_or sizes g 0)) (omega arith) (omega (arith, k.within)) in
      let count : length (tree_at order groups sizes columns at before.needs before.rooms)
      ≡ length (tree_from order groups sizes columns at 0 (v - 0) before.needs before.rooms) + length (tree_at order groups sizes columns (at + 1) down.needs down.rooms)
      + length (tree_from order groups sizes columns at (v + 1) (suc (get_or sizes g 0) - (v + 1)) before.needs before.rooms) =
      ap length (tree_values k.here before.needs before.rooms (get_or sizes g 0) refl ∙ front)
      ∙ length-append (tree_from order groups sizes columns at 0 (v + 1 - 0) before.needs before.rooms) (tree_from order groups sizes columns at (v + 1) (suc (get_or sizes g 0) - (v + 1)) before.needs before.rooms)
      ∙ ap (λ (x : ℕ). x + length (tree_from order groups sizes columns at (v + 1) (suc (get_or sizes g 0) - (v + 1)) before.needs before.rooms))
      (ap length more ∙ length-append (tree_from order groups sizes columns at 0 (v - 0) before.needs before.rooms) (map (λ (w : List ℕ). v ∷ w) (tree_at order groups sizes columns (at + 1) down.needs down.rooms))
      ∙ ap (λ (x : ℕ). length (tree_from order groups sizes columns at 0 (v - 0) before.needs before.rooms) + x) (length-map (tree_at order groups sizes columns (at + 1) down.needs down.rooms) (λ (w : List ℕ). v ∷ w))) in
      let less : (next + length (tree_at order groups sizes columns (at + 1) down.needs down.rooms)) * groups ≤ (row + length (tree_at order groups sizes columns at before.needs before.rooms)) * groups =
      mul-le-mul_right groups (omega (arith, count, s.rows.count)) in
      omega (arith, less, fits, kept)

-- ---- room in the table

-- a row more, and the number of the row after it
pub room_row : (row groups l n : ℕ) → n ≡ 1 → 0 < groups → (row + n) * groups ≤ l → (row * groups + groups ≤ l) × (row + 1 ≤ l)
room_row row groups l n e some r =
    let one : (row + n) * groups ≡ row * groups + groups = ap (λ (m : ℕ). (row + m) * groups) e ∙ add-mul row 1 groups ∙ omega arith in
    let long : row * 1 ≤ row * groups = mul-le-mul_left row some in
    (omega arith, omega arith)
