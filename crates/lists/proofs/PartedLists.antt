-- Lists compared, and lists parted. The test `same` passes exactly where two lists are equal; not all elements pass a test where one fails, and where each fails
-- nothing is kept. And a list parted by a test of two numbers: where each number is like exactly one of some numbers, the parts together are the list, in
-- another order. Rests on the laws of counts and of lists among others. Assumes nothing.
use mathlib.Core.Path.{◌≡◌, refl, sym, ◌∙◌}
use mathlib.Core.Logic.{◌⊎◌, inl, inr}
use mathlib.Core.Bool.{Bool, true, false, cond, ◌&&◌, and-true, and-false}
use mathlib.Core.List.{List, [], ◌∷◌, map, map-id, Memᴰ}
use Prim.Native.Nat.{ℕ, ◌+◌}
use native.Mathlib.Omega.{arith}
use lib.Dec.{eqb}
use borrow.Author.Tests.{eqb-true, eq-eqb, ltb-true}
use Rattle.lists.specs.Lists.{bit, keep, count, all, has, nodup, joined, same}
use Rattle.lists.proofs.Tests.{Decided, decided, clash, and_left, and_right, and_cases}
use Rattle.lists.proofs.Members.{has_head, has_tail}
use Rattle.lists.proofs.Counts.{count_ext, count_zero, count_append}
use Rattle.lists.proofs.Rearranged.{Rearranged, has_count, nodup_count}
use Rattle.lists.proofs.Among.{Among}
use Rattle.lists.proofs.ListsOfElements.{one_among}

-- ---- two lists compared

pub same_equal : (k l : List ℕ) → same k l ≡ true → k ≡ l
same_equal [] [] h = refl
same_equal [] (y ∷ l) h = clash false h refl
same_equal (x ∷ k) [] h = clash false h refl
same_equal (x ∷ k) (y ∷ l) h = rw (eqb-true x y (and_left (eqb x y) (same k l) h), same_equal k l (and_right (eqb x y) (same k l) h))

pub same_self : (l : List ℕ) → same l l ≡ true
same_self [] = refl
same_self (x ∷ l) = rw (eq-eqb x x refl) (same_self l)

-- of the lists that are kept, one is counted as before if it passes, and else not
pub count_same_kept : (f : List ℕ → Bool) (r : List ℕ) (x : List (List ℕ)) → count (same r) (keep f x) ≡ cond (f r) (count (same r) x) 0
count_same_kept f r [] = go (f r)
  where
    go : (t : Bool) → ◌≡◌ {A = ℕ} 0 (cond t 0 0)
    go true = refl
    go false = refl
count_same_kept f r (y ∷ x) = go (decided (f y)) (decided (f r)) (decided (same r y)) (count_same_kept f r x)
  where
    go : Decided (f y) → Decided (f r) → Decided (same r y) → count (same r) (keep f x) ≡ cond (f r) (count (same r) x) 0
        → count (same r) (keep f (y ∷ x)) ≡ cond (f r) (bit (same r y) + count (same r) x) 0
    go (inl a) (inl b) c ih = rw (a, b, rw b at ih)
    go (inl a) (inr b) (inl c) ih = clash (f y) a (rw (same_equal r y c) at b)
    go (inl a) (inr b) (inr c) ih = rw (a, b, c, rw b at ih)
    go (inr a) (inl b) (inl c) ih = clash (f y) (rw (same_equal r y c) at b) a
    go (inr a) (inl b) (inr c) ih = rw (a, b, c, rw b at ih) (omega arith)
    go (inr a) (inr b) c ih = rw (a, b, rw b at ih)

-- ---- elements that fail a test

module _ {A : Type 0} where
  -- not all pass: one fails
  pub all_not : (f : A → Bool) (l : List A) → all f l ≡ false → (x : A) × Memᴰ x l × (f x ≡ false)
  all_not f [] h = clash true refl h
  all_not f (x ∷ l) h = go (and_cases (f x) (all f l) h) (all_not f l)
    where
      go : (f x ≡ false) ⊎ (all f l ≡ false) → (all f l ≡ false → (y : A) × Memᴰ y l × (f y ≡ false))
          → (y : A) × Memᴰ y (x ∷ l) × (f y ≡ false)
      go (inl e) ih = (x, Memᴰ.head refl, e)
      go (inr e) ih = let (y, m, w) = ih e in (y, Memᴰ.tail m, w)

  -- each fails: nothing is kept
  pub none_kept : (f : A → Bool) (l : List A) → ((x : A) → Memᴰ x l → f x ≡ false) → keep f l ≡ []
  none_kept f [] h = refl
  none_kept f (x ∷ l) h = rw (h x (Memᴰ.head refl)) (none_kept f l (λ y m. h y (Memᴰ.tail m)))

-- ---- a list parted

-- where no number stands twice, one of them is counted once
pub count_one : (l : List ℕ) (c : ℕ) → nodup l ≡ true → has l c ≡ true → count (eqb c) l ≡ 1
count_one l c n h = omega (arith, nodup_count l n c, ltb-true 0 (count (eqb c) l) (sym (has_count l c) ∙ h))

module _ (like : ℕ → ℕ → Bool) where
  -- for each number of l, what of k is like it
  abbrev pub parted : List ℕ → List ℕ → List (List ℕ)
  parted k l = map (λ (c : ℕ). keep (like c) k) l

  -- one number more in k is counted in each part whose number is like it
  part_more : (f : ℕ → Bool) (x c : ℕ) (k : List ℕ) → count f (keep (like c) (x ∷ k)) ≡ bit (like c x && f x) + count f (keep (like c) k)
  part_more f x c k = go (decided (like c x))
    where
      go : Decided (like c x) → count f (keep (like c) (x ∷ k)) ≡ bit (like c x && f x) + count f (keep (like c) k)
      go (inl e) = rw e
      go (inr e) = rw e (omega arith)

  parted_more : (f : ℕ → Bool) (x : ℕ) (k l : List ℕ) → count f (joined (parted (x ∷ k) l)) ≡ count (λ c. like c x && f x) l + count f (joined (parted k l))
  parted_more f x k [] = refl
  parted_more f x k (c ∷ l) =
      omega (
        arith,
        count_append f (keep (like c) (x ∷ k)) (joined (parted (x ∷ k) l)),
        count_append f (keep (like c) k) (joined (parted k l)),
        part_more f x c k,
        parted_more f x k l,
      )

  parted_none : (f : ℕ → Bool) (l : List ℕ) → count f (joined (parted [] l)) ≡ 0
  parted_none f [] = refl
  parted_none f (c ∷ l) = parted_none f l

  -- where each number of k is like exactly one of l, the parts together are k, in another order
  pub parted_rearranged : (k l : List ℕ) → ((x : ℕ) → has k x ≡ true → count (λ c. like c x) l ≡ 1) → Rearranged (joined (parted k l)) k
  parted_rearranged [] l h f = parted_none f l
  parted_rearranged (x ∷ k) l h f =
      omega (arith, parted_more f x k l, one (decided (f x)), parted_rearranged k l (λ y e. h y (has_tail x k y e)) f)
    where
      one : Decided (f x) → count (λ c. like c x && f x) l ≡ bit (f x)
      one (inl e) = rw e (count_ext (λ c. like c x && true) (λ c. like c x) l (λ c _. and-true (like c x)) ∙ h x (has_head x k))
      one (inr e) = rw e (count_zero (λ c. like c x && false) l (λ c _. and-false (like c x)))

-- one of several lists stands among all of them joined
pub member_among : {l : List ℕ} (ls : List (List ℕ)) → Memᴰ l ls → Among l (joined ls)
member_among {l} ls m f = rw map-id at (one_among (λ (k : List ℕ). k) ls l m f)
