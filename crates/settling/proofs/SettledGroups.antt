-- Groups set to the one value that they are left (`Settles`). The idea: where every other value is impossible, the tree of a group and the others has the branch of
-- that value alone, so its rows are those of the others behind the value. Group after group, the rows of the tree from the start are those of the groups
-- that are left, behind the settled values. Rests on the search tree and on orders that have begun. Assumes nothing.
use mathlib.Core.Path.{◌≡◌, refl, sym, ap, ◌∙◌}
use mathlib.Core.Logic.{◌⊎◌, inl, inr, ◌≢◌}
use mathlib.Core.Bool.{true, false, cond}
use mathlib.Core.List.{List, [], ◌∷◌, ◌++◌, map, append_assoc, append-nil}
use Prim.Native.Nat.{ℕ, zero, suc, ◌+◌, ◌≤◌, ◌<◌}
use native.Mathlib.Omega.{arith}
use lib.Dec.{eqb, ltb}
use lib.ListN.{length, get_or, set}
use lib.Seq.{get_or-set_same, get_or-set_other}
use borrow.Author.Tests.{eqb-true, eqb-false, lt-ltb}
use Rattle.lists.specs.Lists.{range, all, joined, has}
use Rattle.lists.proofs.Tests.{Decided, decided, clash}
use Rattle.lists.proofs.All.{all_has, has_all}
use Rattle.blocks.specs.BlockSets.{slot_cells}
use Rattle.search.specs.Trees.{lowered, possible, tree}
use Rattle.search.proofs.Lowering.{lowered_less}
use Rattle.orders.specs.declared.Order.{Order}
use Rattle.orders.specs.WholeOrders.{Beginning}
use Rattle.orders.proofs.BegunOrders.{from_start, from_few}
use Rattle.settling.specs.Settling.{Leaves, Settles}

-- ---- one branch

-- where all other numbers of a range give nothing
joined_only : {A : Type 0} (f : ℕ → List A) (v a n : ℕ) → a ≤ v → v < a + n → ((x : ℕ) → x < a + n → x ≢ v → f x ≡ []) → joined (map f (range a n)) ≡ f v
joined_only f v a zero h l none = absurd (omega arith)
joined_only f v a (suc n) h l none =
    go (decided (eqb a v)) (λ d. joined_only f v (suc a) n (omega (arith, d)) (omega arith) (λ x u. none x (omega arith)))
  where
    nothing : (b m : ℕ) → b + m ≡ a + suc n → a < b → a ≡ v → joined (map f (range b m)) ≡ []
    nothing b zero e u w = refl
    nothing b (suc m) e u w = rw (none b (omega arith) (λ z. omega (arith, z))) (nothing (suc b) m (omega arith) (omega arith) w)

    go : Decided (eqb a v) → (a ≢ v → joined (map f (range (suc a) n)) ≡ f v) → f a ++ joined (map f (range (suc a) n)) ≡ f v
    go (inl e) ih =
        let w : a ≡ v = eqb-true a v e in
        rw (nothing (suc a) n (omega arith) (omega arith) w) (append-nil (f a) ∙ ap f w)
    go (inr e) ih = rw (none a (omega arith) (eqb-false a v e)) (ih (eqb-false a v e))

module _ (size : ℕ → ℕ) (column : ℕ → List ℕ) where
  -- a group that is left one value: the rows are those of the other groups behind it
  tree_one_value : (g : ℕ) (gs needs rooms : List ℕ) (v : ℕ) → Leaves (size g) (column g) needs rooms v v
      → tree size column (g ∷ gs) needs rooms ≡ map (λ (row : List ℕ). v ∷ row) (tree size column gs (lowered v (column g) needs) (lowered (size g) (column g) rooms))
  tree_one_value g gs needs rooms v l =
      joined_only branch v 0 (suc (size g)) (omega arith) (omega (arith, l.within)) (λ x u d. rw (impossible x (omega arith) d (decided (possible (size g) (column g) needs rooms x))))
      ∙ rw (l.each v (omega arith) (omega arith))
    where
      branch : ℕ → List (List ℕ)
      branch x = cond (possible (size g) (column g) needs rooms x)
          (map (λ (row : List ℕ). x ∷ row) (tree size column gs (lowered x (column g) needs) (lowered (size g) (column g) rooms))) []

      impossible : (x : ℕ) → x ≤ size g → x ≢ v → Decided (possible (size g) (column g) needs rooms x) → possible (size g) (column g) needs rooms x ≡ false
      impossible x u d (inl p) = let only = l.only x u p in absurd (d (omega (arith, only)))
      impossible x u d (inr p) = p

-- ---- the groups settled so far

-- a row behind nothing
rows_same : (rows : List (List ℕ)) → map (λ (row : List ℕ). [] ++ row) rows ≡ rows
rows_same [] = refl
rows_same (r ∷ rows) = ap (λ (l : List (List ℕ)). r ∷ l) (rows_same rows)

-- none is
pub settles_none : (sizes columns values needs rooms : List ℕ) → Settles sizes columns needs rooms [] values needs rooms
settles_none sizes columns values needs rooms =
    record { rows = λ others. sym (rows_same (tree (λ (g : ℕ). get_or sizes g 0) (slot_cells columns) others needs rooms)); less = λ e. omega arith }

-- rows behind a value, behind others
rows_behind : (l : List ℕ) (v : ℕ) (rows : List (List ℕ))
    → map (λ (row : List ℕ). l ++ row) (map (λ (row : List ℕ). v ∷ row) rows) ≡ map (λ (row : List ℕ). (l ++ (v ∷ [])) ++ row) rows
rows_behind l v [] = refl
rows_behind l v (r ∷ rows) = rw (append_assoc l (v ∷ []) r) (ap (λ (k : List (List ℕ)). (l ++ (v ∷ r)) ∷ k) (rows_behind l v rows))

-- the values of the groups settled before, and of one more
values_more : (values settled : List ℕ) (g v : ℕ) → g < length values → has settled g ≡ false
    → map (λ (x : ℕ). get_or (set values g v) x 0) (settled ++ (g ∷ [])) ≡ map (λ (x : ℕ). get_or values x 0) settled ++ (v ∷ [])
values_more values [] g v h new = ap (λ (x : ℕ). x ∷ []) (get_or-set_same values g v 0 h)
values_more values (y ∷ settled) g v h new =
    rw (get_or-set_other values g y v 0 (λ w. apart (decided (eqb g y)) (sym w)))
    (ap (λ (l : List ℕ). get_or values y 0 ∷ l) (values_more values settled g v h (later (decided (eqb g y)))))
  where
    apart : Decided (eqb g y) → g ≢ y
    apart (inl e) = clash true refl (rw e at new)
    apart (inr e) = eqb-false g y e

    later : Decided (eqb g y) → has settled g ≡ false
    later (inl e) = clash true refl (rw e at new)
    later (inr e) = rw e at new

-- one group more
module _ {sizes columns start_needs start_rooms settled values needs rooms : List ℕ} (held : Settles sizes columns start_needs start_rooms settled values needs rooms)
    (g v : ℕ) (new : has settled g ≡ false) (place : g < length values) (left : Leaves (get_or sizes g 0) (slot_cells columns g) needs rooms v v) where
  pub settles_more : Settles sizes columns start_needs start_rooms (settled ++ (g ∷ [])) (set values g v) (lowered v (slot_cells columns g) needs) (lowered (get_or sizes g 0) (slot_cells columns g) rooms)
  settles_more =
      record {
        rows = λ others.
            ap (λ (gs : List ℕ). tree size column gs start_needs start_rooms) (append_assoc settled (g ∷ []) others)
            ∙ held.rows (g ∷ others)
            ∙ ap (map (λ (row : List ℕ). map (λ (x : ℕ). get_or values x 0) settled ++ row)) (tree_one_value size column g others needs rooms v left)
            ∙ rows_behind (map (λ (x : ℕ). get_or values x 0) settled) v (tree size column others (lowered v (column g) needs) (lowered (size g) (column g) rooms))
            ∙ ap (λ (l : List ℕ). map (λ (row : List ℕ). l ++ row) (tree size column others (lowered v (column g) needs) (lowered (size g) (column g) rooms))) (sym (values_more values settled g v place new));
        less = λ e. omega (arith, held.less e, lowered_less v (slot_cells columns g) needs e);
      }
    where
      size : ℕ → ℕ
      size x = get_or sizes x 0

      column : ℕ → List ℕ
      column = slot_cells columns

-- ---- groups that come to those settled before

-- with a group more they are groups
pub inside_more : (groups g : ℕ) → g < groups → (before after : List ℕ) → all (λ x. ltb x groups) before ≡ true
    → ((x : ℕ) → has after x ≡ true → (has before x ≡ true) ⊎ (x ≡ g)) → all (λ x. ltb x groups) after ≡ true
inside_more groups g h before after inside added = has_all (λ x. ltb x groups) after (λ x m. go x (added x m))
  where
    go : (x : ℕ) → (has before x ≡ true) ⊎ (x ≡ g) → ltb x groups ≡ true
    go x (inl m) = all_has (λ y. ltb y groups) before inside x m
    go x (inr e) = lt-ltb x groups (omega arith)

-- there are at most as many as groups
pub settled_few : (groups : ℕ) (o : Order) → Beginning groups o → o.count ≤ groups
settled_few groups o b = from_few (from_start groups o b.inside)
