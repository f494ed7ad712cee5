-- Orders of the groups: each number below n once. Values in such an order are a row by group, `by_group`, and a row is read back in the order, so the two are
-- inverse; values set in the order are that row; sums and bounds over the groups do not depend on the order; and the order by weight is one, if each group has
-- a first equation. Rests on sums over lists without repetition. Assumes nothing.
use mathlib.Core.Path.{◌≡◌, refl, sym, ap, ◌∙◌}
use mathlib.Core.Logic.{◌⊎◌, inl, inr}
use mathlib.Core.Bool.{Bool, true, false, cond, ◌&&◌}
use mathlib.Core.List.{List, [], ◌∷◌, map}
use Prim.Native.Nat.{ℕ, ◌+◌, ◌≤◌, ◌<◌}
use native.Mathlib.Omega.{arith}
use lib.Dec.{leb, ltb, eqb}
use lib.ListN.{length, get_or, set, take, length-map, length-set}
use lib.Seq.{length-take-le, ext_get_or, get_or-take, get_or-set_same, get_or-set_other}
use borrow.Author.Tests.{eqb-true, eqb-false, eq-eqb, ltb-true, lt-ltb}
use Rattle.lists.specs.Lists.{range, keep, count, all, has, nodup, first_place}
use Rattle.lists.proofs.Tests.{Decided, decided, clash, or_cases, or_false_left, or_false_right, same_test}
use Rattle.lists.proofs.All.{all_has, has_all}
use Rattle.lists.proofs.Members.{has_keep, nodup_head, nodup_tail, nodup_keep, in_range, range_in, range_nodup}
use Rattle.lists.proofs.Joined.{read_all, map_range, map_ext}
use Rattle.lists.proofs.Rearranged.{Rearranged, length_range, nodup_below, rearranged_length, rearranged_has, rearranged_nodup}
use Rattle.lists.proofs.Among.{joined_reverse}
use Rattle.lists.proofs.PartedLists.{count_one, parted_rearranged}
use Rattle.lists.proofs.ReadBack.{range_made}
use Rattle.search.specs.Solutions.{sum, by_weight, by_group}
use Rattle.search.specs.TableRows.{read_at}
use Rattle.search.specs.Searching.{Ordered, placed}
use Rattle.search.proofs.Sums.{sum_same}
use Rattle.search.proofs.Vectors.{within_sizes}
use Rattle.search.proofs.TreeLaws.{added_up}

-- an order has each number below n once
pub record EachOnce (order : List ℕ) (n : ℕ) : Type 0 where
  pub long : length order ≡ n
  pub below : all (λ g. ltb g n) order ≡ true
  pub once : nodup order ≡ true

-- the groups that the search is told of
pub ordered_each_once : (order : List ℕ) (groups equations : ℕ) (sizes columns : List ℕ) → Ordered order groups equations sizes columns → groups ≤ length order
    → EachOnce (take groups order) groups
ordered_each_once order groups equations sizes columns o h = record { long = length-take-le groups order h; below = o.below; once = o.once }

-- ---- places in an order

-- a list read at the places of an order's numbers
pub read_places : (gs values : List ℕ) → nodup gs ≡ true → length values ≡ length gs → map (λ (g : ℕ). get_or values (first_place (eqb g) gs) 0) gs ≡ values
read_places [] [] n h = refl
read_places [] (v ∷ values) n h = absurd (omega arith)
read_places (g ∷ gs) [] n h = absurd (omega arith)
read_places (g ∷ gs) (v ∷ values) n h =
    rw (eq-eqb g g refl)
    (ap (λ (l : List ℕ). v ∷ l)
    (map_ext (λ (c : ℕ). get_or (v ∷ values) (first_place (eqb c) (g ∷ gs)) 0) (λ (c : ℕ). get_or values (first_place (eqb c) gs) 0) gs
    (λ c m. later c m (decided (eqb c g)))
    ∙ read_places gs values (nodup_tail g gs n) (omega arith)))
  where
    later : (c : ℕ) → has gs c ≡ true → Decided (eqb c g) → get_or (v ∷ values) (first_place (eqb c) (g ∷ gs)) 0 ≡ get_or values (first_place (eqb c) gs) 0
    later c m (inl e) = clash (has gs c) m (rw (eqb-true c g e) (nodup_head g gs n))
    later c m (inr e) = rw e

-- what a function gives for an order's numbers, read at the place of one of them
pub place_read : (f : ℕ → ℕ) (gs : List ℕ) (g : ℕ) → has gs g ≡ true → get_or (map f gs) (first_place (eqb g) gs) 0 ≡ f g
place_read f [] g h = clash false h refl
place_read f (x ∷ gs) g h = go (decided (eqb g x)) (place_read f gs g)
  where
    go : Decided (eqb g x) → (has gs g ≡ true → get_or (map f gs) (first_place (eqb g) gs) 0 ≡ f g) → get_or (map f (x ∷ gs)) (first_place (eqb g) (x ∷ gs)) 0 ≡ f g
    go (inl e) ih = rw e (ap f (sym (eqb-true g x e)))
    go (inr e) ih = rw e (ih (rw e at h))

-- the values of the numbers that pass a test, added up over the list
added_up_sum : (f : ℕ → Bool) (value : ℕ → ℕ) (gs : List ℕ) → added_up f gs (map value gs) ≡ sum (map value (keep f gs))
added_up_sum f value [] = refl
added_up_sum f value (g ∷ gs) = go (f g) (added_up_sum f value gs)
  where
    go : (t : Bool) → added_up f gs (map value gs) ≡ sum (map value (keep f gs))
        → cond t (value g) 0 + added_up f gs (map value gs) ≡ sum (map value (cond t (g ∷ keep f gs) (keep f gs)))
    go true ih = omega arith
    go false ih = omega arith

within_map : (size value : ℕ → ℕ) (gs : List ℕ) → within_sizes (map size gs) (map value gs) ≡ all (λ g. leb (value g) (size g)) gs
within_map size value [] = refl
within_map size value (g ∷ gs) = ap (λ (t : Bool). leb (value g) (size g) && t) (within_map size value gs)

-- ---- an order that has each number below n once

module _ (order : List ℕ) (n : ℕ) (o : EachOnce order n) where
  pub each_below : (g : ℕ) → has order g ≡ true → g < n
  each_below g h = ltb-true g n (all_has (λ x. ltb x n) order o.below g h)

  -- it has every number: one more would make it too long
  pub each_has : (g : ℕ) → g < n → has order g ≡ true
  each_has g l = go (decided (has order g))
    where
      go : Decided (has order g) → has order g ≡ true
      go (inl h) = h
      go (inr h) =
          let more : nodup (g ∷ order) ≡ true = rw h o.once in
          absurd (omega (arith, o.long, nodup_below n (g ∷ order) more (λ c m. one c (or_cases (eqb c g) (has order c) m))))
        where
          one : (c : ℕ) → (eqb c g ≡ true) ⊎ (has order c ≡ true) → c < n
          one c (inl e) = omega (arith, eqb-true c g e)
          one c (inr m) = each_below c m

  pub each_same : (c : ℕ) → has order c ≡ has (range 0 n) c
  each_same c =
      same_test (has order c) (has (range 0 n) c) (λ h. in_range 0 n c (omega arith) (omega (arith, each_below c h)))
      (λ h. each_has c (omega (arith, range_in 0 n c h)))

  -- a test on all of them
  pub each_all : (f : ℕ → Bool) → all f order ≡ all f (range 0 n)
  each_all f =
      same_test (all f order) (all f (range 0 n)) (λ h. has_all f (range 0 n) (λ c m. all_has f order h c (each_same c ∙ m)))
      (λ h. has_all f order (λ c m. all_has f (range 0 n) h c (sym (each_same c) ∙ m)))

  -- a sum over those that pass a test
  pub each_sum : (f : ℕ → Bool) (value : ℕ → ℕ) → added_up f order (map value order) ≡ sum (map value (keep f (range 0 n)))
  each_sum f value =
      added_up_sum f value order
      ∙ sum_same value (keep f order) (keep f (range 0 n)) (nodup_keep f order o.once) (nodup_keep f (range 0 n) (range_nodup 0 n))
      (λ c. has_keep f order c ∙ ap (λ (t : Bool). f c && t) (each_same c) ∙ sym (has_keep f (range 0 n) c))

  -- ---- values in the order, and rows by group

  pub by_group_length : (values : List ℕ) → length (by_group order values) ≡ n
  by_group_length values =
      length-map (range 0 (length order)) (λ (g : ℕ). get_or values (first_place (eqb g) order) 0) ∙ length_range 0 (length order) ∙ o.long

  pub by_group_read : (values : List ℕ) (g : ℕ) → g < n → get_or (by_group order values) g 0 ≡ get_or values (first_place (eqb g) order) 0
  by_group_read values g l =
      let e : 0 + g ≡ g = omega arith in
      range_made (λ (h : ℕ). get_or values (first_place (eqb h) order) 0) 0 (length order) g 0 (omega (arith, o.long))
      ∙ ap (λ (h : ℕ). get_or values (first_place (eqb h) order) 0) e

  -- the row that values give reads as the values
  pub read_by_group : (values : List ℕ) → length values ≡ n → read_at order (by_group order values) ≡ values
  read_by_group values h =
      map_ext (λ (g : ℕ). get_or (by_group order values) g 0) (λ (g : ℕ). get_or values (first_place (eqb g) order) 0) order
      (λ g m. by_group_read values g (each_below g m))
      ∙ read_places order values o.once (h ∙ sym o.long)

  -- and what a row reads gives the row
  pub by_group_of_read : (row : List ℕ) → length row ≡ n → by_group order (read_at order row) ≡ row
  by_group_of_read row h =
      map_range (λ (g : ℕ). get_or (read_at order row) (first_place (eqb g) order) 0) (λ (g : ℕ). get_or row g 0) 0 (length order)
      (λ g _ u. place_read (λ (c : ℕ). get_or row c 0) order g (each_has g (omega (arith, o.long))))
      ∙ ap (λ (k : ℕ). map (λ (g : ℕ). get_or row g 0) (range 0 k)) (o.long ∙ sym h)
      ∙ read_all row 0

  -- an array that reads as the values at the order's groups has the row's values
  pub values_by_group : (array values : List ℕ) → read_at order array ≡ values → (g : ℕ) → g < n → get_or array g 0 ≡ get_or (by_group order values) g 0
  values_by_group array values e g l =
      sym (place_read (λ (c : ℕ). get_or array c 0) order g (each_has g l))
      ∙ ap (λ (k : List ℕ). get_or k (first_place (eqb g) order) 0) e
      ∙ sym (by_group_read values g l)

  -- values of the groups that pass a test, added up in the order and by group
  pub added_by_group : (f : ℕ → Bool) (values : List ℕ) → length values ≡ n
      → added_up f order values ≡ sum (map (λ (g : ℕ). get_or (by_group order values) g 0) (keep f (range 0 n)))
  added_by_group f values h =
      ap (added_up f order) (sym (read_by_group values h)) ∙ each_sum f (λ (g : ℕ). get_or (by_group order values) g 0)

  -- a row within the sizes, read in the order and by group
  pub within_by_group : (size : ℕ → ℕ) (row : List ℕ) → length row ≡ n
      → within_sizes (map size order) (read_at order row) ≡ within_sizes (map size (range 0 n)) row
  within_by_group size row h =
      within_map size (λ (g : ℕ). get_or row g 0) order
      ∙ each_all (λ g. leb (get_or row g 0) (size g))
      ∙ sym (within_map size (λ (g : ℕ). get_or row g 0) (range 0 n))
      ∙ ap (within_sizes (map size (range 0 n))) (ap (λ (k : ℕ). read_at (range 0 k) row) (sym h) ∙ read_all row 0)

-- ---- values set in an order

pub length_placed : (values gs row : List ℕ) → length (placed values gs row) ≡ length values
length_placed values [] row = refl
length_placed values (g ∷ gs) [] = refl
length_placed values (g ∷ gs) (v ∷ row) = length_placed (set values g v) gs row ∙ length-set values g v

-- a group that is not among them keeps its value
pub placed_other : (values gs row : List ℕ) (c : ℕ) → has gs c ≡ false → get_or (placed values gs row) c 0 ≡ get_or values c 0
placed_other values [] row c h = refl
placed_other values (g ∷ gs) [] c h = refl
placed_other values (g ∷ gs) (v ∷ row) c h =
    placed_other (set values g v) gs row c (or_false_right (eqb c g) (has gs c) h)
    ∙ get_or-set_other values g c v 0 (eqb-false c g (or_false_left (eqb c g) (has gs c) h))

-- a group that is among them gets its value
pub placed_there : (values gs row : List ℕ) (c : ℕ) → nodup gs ≡ true → length row ≡ length gs → has gs c ≡ true → c < length values
    → get_or (placed values gs row) c 0 ≡ get_or row (first_place (eqb c) gs) 0
placed_there values [] row c n h m l = clash false m refl
placed_there values (g ∷ gs) [] c n h m l = absurd (omega arith)
placed_there values (g ∷ gs) (v ∷ row) c n h m l =
    go (decided (eqb c g)) (λ k. placed_there (set values g v) gs row c (nodup_tail g gs n) (omega arith) k (omega (arith, length-set values g v)))
  where
    go : Decided (eqb c g) → (has gs c ≡ true → get_or (placed (set values g v) gs row) c 0 ≡ get_or row (first_place (eqb c) gs) 0)
        → get_or (placed (set values g v) gs row) c 0 ≡ get_or (v ∷ row) (first_place (eqb c) (g ∷ gs)) 0
    go (inl e) ih =
        let w : c ≡ g = eqb-true c g e in
        rw e (placed_other (set values g v) gs row c (rw w (nodup_head g gs n)) ∙ rw w (get_or-set_same values g v 0 (omega arith)))
    go (inr e) ih = rw e (ih (rw e at m))

-- all of them set: the row by group
pub placed_by_group : (values order row : List ℕ) (n : ℕ) → EachOnce order n → n ≤ length values → length row ≡ n
    → take n (placed values order row) ≡ by_group order row
placed_by_group values order row n o h w =
    ext_get_or 0 (take n (placed values order row)) (by_group order row) (long ∙ sym (by_group_length order n o row)) (λ g l. one g (omega (arith, long)))
  where
    long : length (take n (placed values order row)) ≡ n
    long = length-take-le n (placed values order row) (omega (arith, length_placed values order row))

    one : (g : ℕ) → g < n → get_or (take n (placed values order row)) g 0 ≡ get_or (by_group order row) g 0
    one g l =
        get_or-take n (placed values order row) g 0 l
        ∙ placed_there values order row g o.once (w ∙ sym o.long) (each_has order n o g l) (omega arith)
        ∙ sym (by_group_read order n o row g l)

-- ---- the order by weight

-- it has each group once, if each has a first equation: the groups are parted by it
pub by_weight_each_once : (first : ℕ → ℕ) (n equations : ℕ) → ((g : ℕ) → g < n → first g < equations) → EachOnce (by_weight first n equations) n
by_weight_each_once first n equations h = record {
  long = rearranged_length (by_weight first n equations) (range 0 n) same ∙ length_range 0 n;
  below = has_all (λ g. ltb g n) (by_weight first n equations) (λ g m.
      lt-ltb g n (omega (arith, range_in 0 n g (sym (rearranged_has (by_weight first n equations) (range 0 n) same g) ∙ m))));
  once = rearranged_nodup (range 0 n) (by_weight first n equations) (λ f. sym (same f)) (range_nodup 0 n);
}
  where
    one : (g : ℕ) → has (range 0 n) g ≡ true → count (eqb (first g)) (range 0 equations) ≡ 1
    one g m =
        count_one (range 0 equations) (first g) (range_nodup 0 equations)
        (in_range 0 equations (first g) (omega arith) (omega (arith, h g (omega (arith, range_in 0 n g m)))))

    same : Rearranged (by_weight first n equations) (range 0 n)
    same f =
        joined_reverse (λ (e : ℕ). keep (λ (g : ℕ). eqb (first g) e) (range 0 n)) (range 0 equations) f
        ∙ parted_rearranged (λ e g. eqb (first g) e) (range 0 n) (range 0 equations) one f
