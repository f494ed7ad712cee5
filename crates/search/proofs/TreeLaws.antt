-- The rows of the search tree are the vectors of the groups' sizes that fill the equations, in the order of `vectors`. By recursion on the groups: a value
-- that `possible` refuses is too much for an equation, or leaves it more than its other groups have cells for, so no list that begins with it fills; a value
-- that it admits leaves the lowered needs for the other groups. Rests on Vectors. Assumes nothing.
use mathlib.Core.Path.{◌≡◌, refl, sym, ap, ◌∙◌}
use mathlib.Core.Logic.{◌⊎◌, inl, inr}
use mathlib.Core.Bool.{Bool, true, false, cond, ◌&&◌}
use mathlib.Core.List.Memᴰ
use mathlib.Core.List.{List, [], ◌∷◌, map, Memᴰ}
use Prim.Native.Nat.{ℕ, suc, ◌+◌, ◌-◌, ◌≤◌, ◌<◌}
use native.Mathlib.Omega.{arith}
use native.Mathlib.Decide.{dec_lt}
use lib.Dec.{leb, ltb, eqb}
use lib.ListN.{length, get_or, set, length-set, get_or-eq_default}
use lib.Seq.{set_out, get_or-set_same, get_or-set_other}
use borrow.Author.Tests.{eqb-true, eqb-false, eq-eqb, ne_eqb, leb-true, leb-false, ltb-true}
use Rattle.lists.specs.Lists.{range, every, keep, all, joined, has, nodup}
use Rattle.lists.proofs.Tests.{Decided, decided, clash, and_left, and_right, and_cases, same_test, every_ext, every_at, every_of, every_fails}
use Rattle.lists.proofs.All.{all_at, all_has, has_all}
use Rattle.lists.proofs.Members.{has_head, has_tail, has_place, nodup_head, nodup_tail}
use Rattle.lists.proofs.Unions.{joined_mem, mem_has}
use Rattle.lists.proofs.Kept.{keep_map}
use Rattle.lists.proofs.Joined.{map_range}
use Rattle.lists.proofs.Occurrences.{keep_agree}
use Rattle.lists.proofs.TurnedRound.{keep_joined}
use Rattle.lists.proofs.PartedLists.{all_not, none_kept}
use Rattle.search.specs.Trees.{lowered, possible, branches, tree}
use Rattle.search.specs.Solutions.{vectors}
use Rattle.search.proofs.Vectors.{within_sizes, vectors_from, first_from, vectors_in, vectors_first}

-- ---- what the values of some groups add up to

-- the values of the groups that pass a test, added up
abbrev pub added_up : (ℕ → Bool) → List ℕ → List ℕ → ℕ
added_up f [] row = 0
added_up f (g ∷ gs) [] = 0
added_up f (g ∷ gs) (v ∷ row) = cond (f g) v 0 + added_up f gs row

-- the values of the groups whose column has an equation add up to what it needs, for each equation
abbrev pub fills : (ℕ → List ℕ) → List ℕ → List ℕ → List ℕ → Bool
fills column gs needs row = every (length needs) (λ e. eqb (added_up (λ g. has (column g) e) gs row) (get_or needs e 0))

-- values within the sizes add up to no more than the sizes
pub added_up_within : (f : ℕ → Bool) (gs ns row : List ℕ) → within_sizes ns row ≡ true → added_up f gs row ≤ added_up f gs ns
added_up_within f [] ns row h = omega arith
added_up_within f (g ∷ gs) [] [] h = omega arith
added_up_within f (g ∷ gs) [] (v ∷ row) h = clash false h refl
added_up_within f (g ∷ gs) (n ∷ ns) [] h = clash false h refl
added_up_within f (g ∷ gs) (n ∷ ns) (v ∷ row) h =
    go (f g) (leb-true v n (and_left (leb v n) (within_sizes ns row) h)) (added_up_within f gs ns row (and_right (leb v n) (within_sizes ns row) h))
  where
    go : (t : Bool) → v ≤ n → added_up f gs row ≤ added_up f gs ns → cond t v 0 + added_up f gs row ≤ cond t n 0 + added_up f gs ns
    go true l ih = omega arith
    go false l ih = omega arith

-- where no group is left, an equation is filled if it needs nothing
nothing_needed : (needs : List ℕ) → all (λ n. eqb n 0) needs ≡ every (length needs) (λ e. eqb 0 (get_or needs e 0))
nothing_needed needs =
    same_test (all (λ n. eqb n 0) needs) (every (length needs) (λ e. eqb 0 (get_or needs e 0)))
    (λ h. every_of (length needs) (λ e. eqb 0 (get_or needs e 0))
    (λ e l. eq-eqb 0 (get_or needs e 0) (sym (eqb-true (get_or needs e 0) 0 (all_at (λ n. eqb n 0) needs e 0 h l)))))
    (λ h. has_all (λ n. eqb n 0) needs (λ n m.
    let (e, l, w) = has_place needs n m in
    eq-eqb n 0 (sym w ∙ sym (eqb-true 0 (get_or needs e 0) (every_at (length needs) (λ d. eqb 0 (get_or needs d 0)) h e l)))))

-- ---- lowered numbers

pub lowered_length : (v : ℕ) (es l : List ℕ) → length (lowered v es l) ≡ length l
lowered_length v [] l = refl
lowered_length v (e ∷ es) l = lowered_length v es (set l e (get_or l e 0 - v)) ∙ length-set l e (get_or l e 0 - v)

lowered_here : (v : ℕ) (l : List ℕ) (e : ℕ) → get_or (set l e (get_or l e 0 - v)) e 0 ≡ get_or l e 0 - v
lowered_here v l e = go (dec_lt e (length l))
  where
    go : Dec (e < length l) → get_or (set l e (get_or l e 0 - v)) e 0 ≡ get_or l e 0 - v
    go (yes h) = get_or-set_same l e (get_or l e 0 - v) 0 h
    go (no h) =
        let z : get_or l e 0 ≡ 0 = get_or-eq_default l 0 (omega arith) in
        ap (λ (k : List ℕ). get_or k e 0) (set_out l e (get_or l e 0 - v) (omega arith)) ∙ omega arith

-- at each place of the list once, and nowhere else
pub lowered_read : (v : ℕ) (es l : List ℕ) (e : ℕ) → nodup es ≡ true → get_or (lowered v es l) e 0 ≡ get_or l e 0 - cond (has es e) v 0
lowered_read v [] l e n = omega arith
lowered_read v (d ∷ es) l e n = lowered_read v es (set l d (get_or l d 0 - v)) e (nodup_tail d es n) ∙ go (decided (eqb e d))
  where
    go : Decided (eqb e d) → get_or (set l d (get_or l d 0 - v)) e 0 - cond (has es e) v 0 ≡ get_or l e 0 - cond (has (d ∷ es) e) v 0
    go (inl h) =
        let w : e ≡ d = eqb-true e d h in
        rw (h, w, nodup_head d es n, lowered_here v l d) (omega arith)
    go (inr h) = rw (h, get_or-set_other l d e (get_or l d 0 - v) 0 (eqb-false e d h))

-- ---- what the search is told of its groups

-- their columns have places of equations, none twice, and no equation has fewer cells than its groups
pub record Searchable (size : ℕ → ℕ) (column : ℕ → List ℕ) (gs needs rooms : List ℕ) : Type 0 where
  pub once : (g : ℕ) → has gs g ≡ true → nodup (column g) ≡ true
  pub below : (g : ℕ) → has gs g ≡ true → all (λ e. ltb e (length needs)) (column g) ≡ true
  pub enough : (e : ℕ) → e < length needs → added_up (λ g. has (column g) e) gs (map size gs) ≤ get_or rooms e 0

module _ (size : ℕ → ℕ) (column : ℕ → List ℕ) where
  -- with the first group set it is so of the others
  searchable_next : (g : ℕ) (gs needs rooms : List ℕ) (v : ℕ) → Searchable size column (g ∷ gs) needs rooms
      → Searchable size column gs (lowered v (column g) needs) (lowered (size g) (column g) rooms)
  searchable_next g gs needs rooms v s = record {
    once = λ h m. s.once h (has_tail g gs h m);
    below = λ h m. rw (lowered_length v (column g) needs) (s.below h (has_tail g gs h m));
    enough = λ e l. rw (lowered_read (size g) (column g) rooms e (s.once g (has_head g gs)))
        (less e (has (column g) e) (s.enough e (rw (lowered_length v (column g) needs) at l)));
  }
    where
      less : (e : ℕ) (t : Bool) → cond t (size g) 0 + added_up (λ h. has (column h) e) gs (map size gs) ≤ get_or rooms e 0
          → added_up (λ h. has (column h) e) gs (map size gs) ≤ get_or rooms e 0 - cond t (size g) 0
      less e true h = omega arith
      less e false h = omega arith

  module _ (g : ℕ) (gs needs rooms : List ℕ) (s : Searchable size column (g ∷ gs) needs rooms) (v : ℕ) where
    -- a value that is admitted: the rest of the list fills what is left
    admitted : possible (size g) (column g) needs rooms v ≡ true → (row : List ℕ)
        → fills column (g ∷ gs) needs (v ∷ row) ≡ fills column gs (lowered v (column g) needs) row
    admitted p row =
        every_ext (length needs) (λ e. eqb (cond (has (column g) e) v 0 + total e) (get_or needs e 0))
        (λ e. eqb (total e) (get_or (lowered v (column g) needs) e 0)) one
        ∙ ap (λ (n : ℕ). every n (λ e. eqb (total e) (get_or (lowered v (column g) needs) e 0))) (sym (lowered_length v (column g) needs))
      where
        total : ℕ → ℕ
        total e = added_up (λ h. has (column h) e) gs row

        less : (a t n : ℕ) → a ≤ n → eqb (a + t) n ≡ eqb t (n - a)
        less a t n h =
            same_test (eqb (a + t) n) (eqb t (n - a)) (λ e. eq-eqb t (n - a) (omega (arith, eqb-true (a + t) n e)))
            (λ e. eq-eqb (a + t) n (omega (arith, eqb-true t (n - a) e)))

        one : (e : ℕ) → e < length needs
            → eqb (cond (has (column g) e) v 0 + total e) (get_or needs e 0) ≡ eqb (total e) (get_or (lowered v (column g) needs) e 0)
        one e l =
            rw (lowered_read v (column g) needs e (s.once g (has_head g gs)))
            (less (cond (has (column g) e) v 0) (total e) (get_or needs e 0) (small (decided (has (column g) e))))
          where
            small : Decided (has (column g) e) → cond (has (column g) e) v 0 ≤ get_or needs e 0
            small (inl m) =
                rw m (leb-true v (get_or needs e 0) (and_left (leb v (get_or needs e 0)) (leb (get_or needs e 0 + size g) (v + get_or rooms e 0))
                (all_has (λ d. leb v (get_or needs d 0) && leb (get_or needs d 0 + size g) (v + get_or rooms d 0)) (column g) p e m)))
            small (inr m) = rw m (omega arith)

    -- a value that is refused: no list within the sizes that begins with it fills
    refused : possible (size g) (column g) needs rooms v ≡ false → (row : List ℕ) → within_sizes (map size gs) row ≡ true
        → fills column (g ∷ gs) needs (v ∷ row) ≡ false
    refused p row w =
        let (e, n, f) = all_not test (column g) p in
        let m : has (column g) e ≡ true = mem_has (column g) n in
        let l : e < length needs = ltb-true e (length needs) (all_has (λ d. ltb d (length needs)) (column g) (s.below g (has_head g gs)) e m) in
        let u : added_up (λ h. has (column h) e) gs row ≤ added_up (λ h. has (column h) e) gs (map size gs) =
        added_up_within (λ h. has (column h) e) gs (map size gs) row w in
        let r : size g + added_up (λ h. has (column h) e) gs (map size gs) ≤ get_or rooms e 0 = rw m at (s.enough e l) in
        every_fails (length needs) (λ d. eqb (added_up (λ h. has (column h) d) (g ∷ gs) (v ∷ row)) (get_or needs d 0)) e l
        (rw m (ne_eqb (v + added_up (λ h. has (column h) e) gs row) (get_or needs e 0)
        (λ q. never e (and_cases (leb v (get_or needs e 0)) (leb (get_or needs e 0 + size g) (v + get_or rooms e 0)) f) q u r)))
      where
        test : ℕ → Bool
        test e = leb v (get_or needs e 0) && leb (get_or needs e 0 + size g) (v + get_or rooms e 0)

        never : (e : ℕ) → (leb v (get_or needs e 0) ≡ false) ⊎ (leb (get_or needs e 0 + size g) (v + get_or rooms e 0) ≡ false)
            → v + added_up (λ h. has (column h) e) gs row ≡ get_or needs e 0
            → added_up (λ h. has (column h) e) gs row ≤ added_up (λ h. has (column h) e) gs (map size gs)
            → size g + added_up (λ h. has (column h) e) gs (map size gs) ≤ get_or rooms e 0 → ⊥
        never e (inl a) q u r = omega (arith, leb-false v (get_or needs e 0) a)
        never e (inr a) q u r = omega (arith, leb-false (get_or needs e 0 + size g) (v + get_or rooms e 0) a)

  -- ---- the tree

  -- a row of some branches has one value more than the other groups' rows
  pub branches_row_length : (sub : List ℕ → List ℕ → List (List ℕ)) (g n : ℕ)
      → ((needs rooms row : List ℕ) → Memᴰ row (sub needs rooms) → length row ≡ n)
      → (v k : ℕ) (needs rooms row : List ℕ) → Memᴰ row (branches size column sub g v k needs rooms) → length row ≡ suc n
  branches_row_length sub g n long v k needs rooms row m =
      let (part, p, q) = joined_mem (map branch (range v k)) m in
      let (x, _, e) = Memᴰ.of_map branch (range v k) p in
      go x (possible (size g) (column g) needs rooms x) (rw (← e) at q)
    where
      branch : ℕ → List (List ℕ)
      branch x = cond (possible (size g) (column g) needs rooms x)
          (map (λ (row : List ℕ). x ∷ row) (sub (lowered x (column g) needs) (lowered (size g) (column g) rooms))) []

      go : (x : ℕ) (t : Bool) → Memᴰ row (cond t (map (λ (r : List ℕ). x ∷ r) (sub (lowered x (column g) needs) (lowered (size g) (column g) rooms))) [])
          → length row ≡ suc n
      go x true a =
          let (r, d, e) = Memᴰ.of_map (λ (r : List ℕ). x ∷ r) (sub (lowered x (column g) needs) (lowered (size g) (column g) rooms)) a in
          ap (λ (l : List ℕ). length l) (sym e) ∙ ap suc (long (lowered x (column g) needs) (lowered (size g) (column g) rooms) r d)
      go x false a = absurd (Memᴰ.not-nil a)

  -- a row of the tree has a value for each group
  pub tree_row_length : (gs needs rooms row : List ℕ) → Memᴰ row (tree size column gs needs rooms) → length row ≡ length gs
  tree_row_length [] needs rooms row m = go (all (λ n. eqb n 0) needs) m
    where
      go : (t : Bool) → Memᴰ row (cond t ([] ∷ []) []) → length row ≡ 0
      go true n = ap (λ (l : List ℕ). length l) (Memᴰ.eq_of_singleton n)
      go false n = absurd (Memᴰ.not-nil n)
  tree_row_length (g ∷ gs) needs rooms row m = branches_row_length (tree size column gs) g (length gs) (tree_row_length gs) 0 (suc (size g)) needs rooms row m

  -- where the other groups' tree gives their vectors that fill, the values of the first group from v up give the lists that begin with them and fill
  branches_step : (g : ℕ) (gs needs rooms : List ℕ) → Searchable size column (g ∷ gs) needs rooms
      → ((ns rs : List ℕ) → Searchable size column gs ns rs → tree size column gs ns rs ≡ keep (fills column gs ns) (vectors (map size gs)))
      → (v k : ℕ) → branches size column (tree size column gs) g v k needs rooms ≡ keep (fills column (g ∷ gs) needs) (vectors_from v k (map size gs))
  branches_step g gs needs rooms s sub v k =
      map_joined ∙ sym (keep_joined (fills column (g ∷ gs) needs) (λ (x : ℕ). map (λ (row : List ℕ). x ∷ row) (vectors (map size gs))) (range v k))
    where
      branch : ℕ → List (List ℕ)
      branch x = cond (possible (size g) (column g) needs rooms x)
          (map (λ (row : List ℕ). x ∷ row) (tree size column gs (lowered x (column g) needs) (lowered (size g) (column g) rooms))) []

      part : ℕ → List (List ℕ)
      part x = keep (fills column (g ∷ gs) needs) (map (λ (row : List ℕ). x ∷ row) (vectors (map size gs)))

      one : (x : ℕ) → Decided (possible (size g) (column g) needs rooms x) → branch x ≡ part x
      one x (inl p) =
          rw p
          (ap (map (λ (row : List ℕ). x ∷ row))
          (sub (lowered x (column g) needs) (lowered (size g) (column g) rooms) (searchable_next g gs needs rooms x s)
          ∙ keep_agree (fills column gs (lowered x (column g) needs)) (λ row. fills column (g ∷ gs) needs (x ∷ row)) (vectors (map size gs))
          (λ row _. sym (admitted g gs needs rooms s x p row)))
          ∙ sym (keep_map (λ (row : List ℕ). x ∷ row) (fills column (g ∷ gs) needs) (vectors (map size gs))))
      one x (inr p) =
          rw p
          (sym (keep_map (λ (row : List ℕ). x ∷ row) (fills column (g ∷ gs) needs) (vectors (map size gs))
          ∙ ap (map (λ (row : List ℕ). x ∷ row))
          (none_kept (λ row. fills column (g ∷ gs) needs (x ∷ row)) (vectors (map size gs))
          (λ row m. refused g gs needs rooms s x p row (vectors_in (map size gs) row m)))))

      map_joined : joined (map branch (range v k)) ≡ joined (map part (range v k))
      map_joined = ap joined (map_range branch part v k (λ x _ _. one x (decided (possible (size g) (column g) needs rooms x))))

  -- the rows of the tree are the vectors that fill
  pub tree_vectors : (gs needs rooms : List ℕ) → Searchable size column gs needs rooms
      → tree size column gs needs rooms ≡ keep (fills column gs needs) (vectors (map size gs))
  tree_vectors [] needs rooms s = ap (λ (t : Bool). cond t ([] ∷ []) []) (nothing_needed needs)
  tree_vectors (g ∷ gs) needs rooms s = branches_step g gs needs rooms s (tree_vectors gs) 0 (suc (size g))

  -- and those of k branches from v up are the vectors that fill and have one of these values first
  pub branches_vectors : (g : ℕ) (gs needs rooms : List ℕ) → Searchable size column (g ∷ gs) needs rooms → (v k : ℕ) → v + k ≤ suc (size g)
      → branches size column (tree size column gs) g v k needs rooms ≡ keep (fills column (g ∷ gs) needs) (keep (first_from v k) (vectors (map size (g ∷ gs))))
  branches_vectors g gs needs rooms s v k h =
      branches_step g gs needs rooms s (tree_vectors gs) v k
      ∙ ap (keep (fills column (g ∷ gs) needs)) (vectors_first v k (size g) (map size gs) h)
