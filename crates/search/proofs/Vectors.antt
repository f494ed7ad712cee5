-- `vectors` has every list of values within the sizes, each once and nothing else, in lexicographic order. By recursion on the sizes: the lists with first value
-- v stand together, and behind v they are the vectors of the other sizes. Those whose first value is from v on, k values, are one part of them.
-- Rests on the laws of ranges and counts. Assumes nothing.
use mathlib.Core.Path.{◌≡◌, refl, sym, ap, ◌∙◌}
use mathlib.Core.Logic.{inl, inr, ◌≢◌}
use mathlib.Core.Bool.{Bool, true, false, cond, ◌&&◌}
use mathlib.Core.List.Memᴰ
use mathlib.Core.List.{List, [], ◌∷◌, ◌++◌, map, Memᴰ}
use Prim.Native.Nat.{ℕ, zero, suc, ◌+◌, ◌≤◌, ◌<◌}
use native.Mathlib.Omega.{arith}
use lib.Dec.{leb, ltb, eqb}
use lib.ListN.{length, get_or}
use borrow.Author.Tests.{eqb-true, eqb-false, eq-eqb, leb-true, leb-false, le-leb, lt-leb, lt-ltb, le-ltb}
use Rattle.lists.specs.Lists.{range, bit, keep, count, all, joined, same}
use Rattle.lists.proofs.Tests.{Decided, decided, clash, and_left, and_right}
use Rattle.lists.proofs.All.{all_head, all_tail, all_joined, all_keep}
use Rattle.lists.proofs.Members.{in_range, range_in}
use Rattle.lists.proofs.Unions.{all_of, has_mem, mem_has, mem_joined, joined_mem}
use Rattle.lists.proofs.Kept.{keep_all, keep_map}
use Rattle.lists.proofs.Joined.{map_ext}
use Rattle.lists.proofs.CountsAlike.{counts_map, counts_zero}
use Rattle.lists.proofs.TurnedRound.{keep_joined, joined_keep}
use Rattle.lists.proofs.PlacesAndRanges.{range_part}
use Rattle.lists.proofs.PartedLists.{none_kept}
use Rattle.lists.proofs.Counts.{count_append}
use Rattle.search.specs.Solutions.{vectors}
use Rattle.search.specs.TableRows.{precedes, is_in_order}

-- a value for each size, none above its size
abbrev pub within_sizes : List ℕ → List ℕ → Bool
within_sizes [] [] = true
within_sizes [] (v ∷ row) = false
within_sizes (n ∷ ns) [] = false
within_sizes (n ∷ ns) (v ∷ row) = leb v n && within_sizes ns row

pub within_length : (ns row : List ℕ) → within_sizes ns row ≡ true → length row ≡ length ns
within_length [] [] h = refl
within_length [] (v ∷ row) h = clash false h refl
within_length (n ∷ ns) [] h = clash false h refl
within_length (n ∷ ns) (v ∷ row) h = ap suc (within_length ns row (and_right (leb v n) (within_sizes ns row) h))

-- each value is at most its size
pub within_read : (ns row : List ℕ) → within_sizes ns row ≡ true → (i : ℕ) → get_or row i 0 ≤ get_or ns i 0
within_read [] [] h i = omega arith
within_read [] (v ∷ row) h i = clash false h refl
within_read (n ∷ ns) [] h i = clash false h refl
within_read (n ∷ ns) (v ∷ row) h zero = leb-true v n (and_left (leb v n) (within_sizes ns row) h)
within_read (n ∷ ns) (v ∷ row) h (suc i) = within_read ns row (and_right (leb v n) (within_sizes ns row) h) i

-- and where as many values are so, they are within the sizes
pub within_places : (ns row : List ℕ) → length row ≡ length ns → ((i : ℕ) → i < length ns → get_or row i 0 ≤ get_or ns i 0) → within_sizes ns row ≡ true
within_places [] [] l h = refl
within_places [] (v ∷ row) l h = absurd (omega arith)
within_places (n ∷ ns) [] l h = absurd (omega arith)
within_places (n ∷ ns) (v ∷ row) l h = rw (le-leb v n (h 0 (omega arith))) (within_places ns row (omega arith) (λ i u. h (suc i) (omega arith)))

-- ---- which lists

-- the lists with k first values from v up
abbrev pub vectors_from : ℕ → ℕ → List ℕ → List (List ℕ)
vectors_from v k ns = joined (map (λ (x : ℕ). map (λ (row : List ℕ). x ∷ row) (vectors ns)) (range v k))

pub in_vectors_from : (v k : ℕ) (ns : List ℕ) (x : ℕ) (row : List ℕ) → v ≤ x → x < v + k → Memᴰ row (vectors ns)
    → Memᴰ (x ∷ row) (vectors_from v k ns)
in_vectors_from v k ns x row l u m =
    mem_joined (Memᴰ.map (λ (r : List ℕ). x ∷ r) m)
    (Memᴰ.map (λ (y : ℕ). map (λ (r : List ℕ). y ∷ r) (vectors ns)) (has_mem (range v k) x (in_range v k x l u)))

pub vectors_from_in : (v k : ℕ) (ns row : List ℕ) → Memᴰ row (vectors_from v k ns)
    → (x : ℕ) × (r : List ℕ) × (row ≡ x ∷ r) × (v ≤ x) × (x < v + k) × Memᴰ r (vectors ns)
vectors_from_in v k ns row m =
    let part : ℕ → List (List ℕ) = λ y. map (λ (r : List ℕ). y ∷ r) (vectors ns) in
    let (l, n, o) = joined_mem (map part (range v k)) m in
    let (x, q, w) = Memᴰ.of_map part (range v k) n in
    let (r, p, z) = Memᴰ.of_map (λ (r : List ℕ). x ∷ r) (vectors ns) (rw (← w) at o) in
    let (a, c) = range_in v k x (mem_has (range v k) q) in
    (x, r, sym z, a, c, p)

-- every list within the sizes
pub in_vectors : (ns row : List ℕ) → within_sizes ns row ≡ true → Memᴰ row (vectors ns)
in_vectors [] [] h = Memᴰ.head refl
in_vectors [] (v ∷ row) h = clash false h refl
in_vectors (n ∷ ns) [] h = clash false h refl
in_vectors (n ∷ ns) (v ∷ row) h =
    in_vectors_from 0 (suc n) ns v row (omega arith) (omega (arith, leb-true v n (and_left (leb v n) (within_sizes ns row) h)))
    (in_vectors ns row (and_right (leb v n) (within_sizes ns row) h))

-- and no other
pub vectors_in : (ns row : List ℕ) → Memᴰ row (vectors ns) → within_sizes ns row ≡ true
vectors_in [] row m = rw (Memᴰ.eq_of_singleton m)
vectors_in (n ∷ ns) row m =
    let (x, r, w, l, u, p) = vectors_from_in 0 (suc n) ns row m in
    rw (w, le-leb x n (omega arith)) (vectors_in ns r p)

-- ---- each once

-- a list with first value v stands there as often as the rest of it stands among the vectors of the other sizes
heads_count : (v : ℕ) (row : List ℕ) (x : ℕ) (rows : List (List ℕ))
    → count (same (v ∷ row)) (map (λ (r : List ℕ). x ∷ r) rows) ≡ cond (eqb v x) (count (same row) rows) 0
heads_count v row x rows = counts_map (same (v ∷ row)) (λ (r : List ℕ). x ∷ r) rows ∙ go (decided (eqb v x))
  where
    go : Decided (eqb v x) → count (λ r. same (v ∷ row) (x ∷ r)) rows ≡ cond (eqb v x) (count (same row) rows) 0
    go (inl e) = rw e
    go (inr e) = rw e (counts_zero (λ r. false) rows (λ r m. refl))

from_count : (v : ℕ) (row : List ℕ) (a k : ℕ) (ns : List ℕ)
    → count (same (v ∷ row)) (vectors_from a k ns) ≡ cond (leb a v && ltb v (a + k)) (count (same row) (vectors ns)) 0
from_count v row a zero ns = sym (go (decided (leb a v)))
  where
    go : Decided (leb a v) → cond (leb a v && ltb v (a + 0)) (count (same row) (vectors ns)) 0 ≡ 0
    go (inl e) = rw (e, le-ltb v (a + 0) (omega (arith, leb-true a v e)))
    go (inr e) = rw e
from_count v row a (suc k) ns =
    count_append (same (v ∷ row)) (map (λ (r : List ℕ). a ∷ r) (vectors ns)) (vectors_from (suc a) k ns)
    ∙ rw (heads_count v row a (vectors ns), from_count v row (suc a) k ns) (go (decided (eqb v a)) (decided (leb a v)))
  where
    shift : ltb v (suc a + k) ≡ ltb v (a + suc k)
    shift = let e : suc a + k ≡ a + suc k = omega arith in ap (ltb v) e

    go : Decided (eqb v a) → Decided (leb a v)
        → cond (eqb v a) (count (same row) (vectors ns)) 0 + cond (leb (suc a) v && ltb v (suc a + k)) (count (same row) (vectors ns)) 0
        ≡ cond (leb a v && ltb v (a + suc k)) (count (same row) (vectors ns)) 0
    go (inl e) d =
        let w : v ≡ a = eqb-true v a e in
        rw (e, lt-leb (suc a) v (omega arith), le-leb a v (omega arith), lt-ltb v (a + suc k) (omega arith)) (omega arith)
    go (inr e) (inl d) =
        let w : v ≢ a = eqb-false v a e in
        let l : a ≤ v = leb-true a v d in
        rw (e, d, le-leb (suc a) v (omega arith), shift) (omega arith)
    go (inr e) (inr d) = rw (e, d, lt-leb (suc a) v (omega (arith, leb-false a v d))) (omega arith)

-- every list once if it is within the sizes, else not at all
pub vectors_once : (ns row : List ℕ) → count (same row) (vectors ns) ≡ bit (within_sizes ns row)
vectors_once [] [] = refl
vectors_once [] (v ∷ row) = refl
vectors_once (n ∷ ns) [] = counts_zero (same []) (vectors (n ∷ ns)) other
  where
    other : (r : List ℕ) → Memᴰ r (vectors (n ∷ ns)) → same [] r ≡ false
    other r m = let (x, s, w, _, _, _) = vectors_from_in 0 (suc n) ns r m in rw w
vectors_once (n ∷ ns) (v ∷ row) = from_count v row 0 (suc n) ns ∙ rw (vectors_once ns row) (go (decided (leb v n)) (within_sizes ns row))
  where
    go : Decided (leb v n) → (t : Bool) → cond (leb 0 v && ltb v (0 + suc n)) (bit t) 0 ≡ bit (leb v n && t)
    go (inl e) t = rw (e, le-leb 0 v (omega arith), lt-ltb v (0 + suc n) (omega (arith, leb-true v n e)))
    go (inr e) t = rw (e, le-leb 0 v (omega arith), le-ltb v (0 + suc n) (omega (arith, leb-false v n e)))

-- ---- those whose first value is from v on, k values

abbrev pub first_from : ℕ → ℕ → List ℕ → Bool
first_from v k row = leb v (get_or row 0 0) && ltb (get_or row 0 0) (v + k)

pub vectors_first : (v k n : ℕ) (ns : List ℕ) → v + k ≤ suc n → vectors_from v k ns ≡ keep (first_from v k) (vectors (n ∷ ns))
vectors_first v k n ns h =
    ap (λ (l : List ℕ). joined (map part l)) (sym (range_part (suc n) v k h))
    ∙ joined_keep part t (range 0 (suc n))
    ∙ ap joined (map_ext (λ (x : ℕ). cond (t x) (part x) []) (λ (x : ℕ). keep (first_from v k) (part x)) (range 0 (suc n)) (λ x _. one x (decided (t x))))
    ∙ sym (keep_joined (first_from v k) part (range 0 (suc n)))
  where
    part : ℕ → List (List ℕ)
    part x = map (λ (row : List ℕ). x ∷ row) (vectors ns)

    t : ℕ → Bool
    t x = leb v x && ltb x (v + k)

    one : (x : ℕ) → Decided (t x) → cond (t x) (part x) [] ≡ keep (first_from v k) (part x)
    one x (inl e) =
        rw e (sym (keep_map (λ (row : List ℕ). x ∷ row) (first_from v k) (vectors ns)
        ∙ ap (map (λ (row : List ℕ). x ∷ row)) (keep_all (λ row. t x) (vectors ns) (λ _. e))))
    one x (inr e) =
        rw e (sym (keep_map (λ (row : List ℕ). x ∷ row) (first_from v k) (vectors ns)
        ∙ ap (map (λ (row : List ℕ). x ∷ row)) (none_kept (λ row. t x) (vectors ns) (λ row _. e))))

-- ---- lexicographic order

in_order_append : (k l : List (List ℕ)) → is_in_order k ≡ true → is_in_order l ≡ true → ((r s : List ℕ) → Memᴰ r k → Memᴰ s l → precedes r s ≡ true)
    → is_in_order (k ++ l) ≡ true
in_order_append [] l a b h = b
in_order_append (r ∷ k) l a b h =
    rw (all_joined (precedes r) k l (and_left (all (precedes r) k) (is_in_order k) a) (all_of (precedes r) l (λ s m. h r s (Memᴰ.head refl) m)))
    (in_order_append k l (and_right (all (precedes r) k) (is_in_order k) a) b (λ x s m n. h x s (Memᴰ.tail m) n))

-- rows that are kept stay in order
pub in_order_keep : (f : List ℕ → Bool) (l : List (List ℕ)) → is_in_order l ≡ true → is_in_order (keep f l) ≡ true
in_order_keep f [] h = refl
in_order_keep f (r ∷ l) h = go (decided (f r)) (in_order_keep f l (and_right (all (precedes r) l) (is_in_order l) h))
  where
    go : Decided (f r) → is_in_order (keep f l) ≡ true → is_in_order (keep f (r ∷ l)) ≡ true
    go (inl e) ih = rw (e, all_keep (precedes r) f l (and_left (all (precedes r) l) (is_in_order l) h)) ih
    go (inr e) ih = rw e ih

-- and rows that get the same first value
in_order_heads : (v : ℕ) (l : List (List ℕ)) → is_in_order l ≡ true → is_in_order (map (λ (row : List ℕ). v ∷ row) l) ≡ true
in_order_heads v [] h = refl
in_order_heads v (r ∷ l) h = rw (heads l (and_left (all (precedes r) l) (is_in_order l) h)) (in_order_heads v l (and_right (all (precedes r) l) (is_in_order l) h))
  where
    heads : (k : List (List ℕ)) → all (precedes r) k ≡ true → all (precedes (v ∷ r)) (map (λ (row : List ℕ). v ∷ row) k) ≡ true
    heads [] g = refl
    heads (s ∷ k) g =
        rw (le-ltb v v (omega arith), eq-eqb v v refl, all_head (precedes r) s k g) (heads k (all_tail (precedes r) s k g))

from_in_order : (v k : ℕ) (ns : List ℕ) → is_in_order (vectors ns) ≡ true → is_in_order (vectors_from v k ns) ≡ true
from_in_order v zero ns h = refl
from_in_order v (suc k) ns h =
    in_order_append (map (λ (row : List ℕ). v ∷ row) (vectors ns)) (vectors_from (suc v) k ns)
    (in_order_heads v (vectors ns) h) (from_in_order (suc v) k ns h) ahead
  where
    ahead : (r s : List ℕ) → Memᴰ r (map (λ (row : List ℕ). v ∷ row) (vectors ns)) → Memᴰ s (vectors_from (suc v) k ns) → precedes r s ≡ true
    ahead r s m n =
        let (x, _, e) = Memᴰ.of_map (λ (row : List ℕ). v ∷ row) (vectors ns) m in
        let (y, z, w, l, _, _) = vectors_from_in (suc v) k ns s n in
        rw (← e, w, lt-ltb v y (omega arith))

-- `vectors` is in lexicographic order, the first value weighing most
pub vectors_in_order : (ns : List ℕ) → is_in_order (vectors ns) ≡ true
vectors_in_order [] = refl
vectors_in_order (n ∷ ns) = from_in_order 0 (suc n) ns (vectors_in_order ns)
