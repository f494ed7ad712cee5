-- Two lists have the same numbers, each as often, where every test counts alike in both. Such lists have the same members and the same length, and
-- none stands twice in the one if none does in the other; so what moves the elements of a list about needs one law, that of its counts. And how long a
-- list without repetition can be. Rests on the laws of counts. Assumes nothing.
use mathlib.Core.Path.{◌≡◌, refl, sym, ap, ◌∙◌}
use mathlib.Core.Logic.{inl, inr}
use mathlib.Core.Bool.{Bool, true, false, ◌&&◌, ◌||◌}
use mathlib.Core.List.{List, [], ◌∷◌, reverse, reverse-cons}
use Prim.Native.Nat.{ℕ, zero, suc, ◌+◌, ◌-◌, ◌≤◌, ◌<◌}
use native.Mathlib.Omega.{arith}
use lib.Dec.{eqb, ltb}
use lib.ListN.{length, take, drop, take-append-drop}
use borrow.Author.Tests.{eqb-true, eq-eqb, lt-ltb, le-ltb, ltb-false}
use Rattle.lists.specs.Lists.{range, bit, count, any, has, nodup, rotated}
use Rattle.lists.proofs.Tests.{Decided, decided}
use Rattle.lists.proofs.Members.{nodup_head, nodup_tail, in_range, range_nodup}
use Rattle.lists.proofs.Counts.{count_le, count_ext, count_append, count_shared}

-- every test counts alike in the two lists
abbrev pub Rearranged : List ℕ → List ℕ → Type 0
Rearranged k l = (f : ℕ → Bool) → count f k ≡ count f l

-- ---- a list's length, members and repetitions as counts

-- all are counted
pub count_all : {A : Type 0} (l : List A) → count (λ _. true) l ≡ length l
count_all [] = refl
count_all (x ∷ l) = omega (arith, count_all l)

-- some number passes exactly where one is counted
pub any_count_lem : (f : ℕ → Bool) (l : List ℕ) → any f l ≡ ltb 0 (count f l)
any_count_lem f [] = refl
any_count_lem f (x ∷ l) = go (f x) (any_count_lem f l)
  where
    go : (t : Bool) → any f l ≡ ltb 0 (count f l) → (t || any f l) ≡ ltb 0 (bit t + count f l)
    go true ih = sym (lt-ltb 0 (bit true + count f l) (omega arith))
    go false ih = let e : count f l ≡ bit false + count f l = omega arith in ih ∙ ap (ltb 0) e

-- a number stands in a list where one equal to it does
pub has_any : (l : List ℕ) (c : ℕ) → has l c ≡ any (eqb c) l
has_any [] c = refl
has_any (x ∷ l) c = ap (λ (t : Bool). eqb c x || t) (has_any l c)

-- so where it is counted
pub has_count : (l : List ℕ) (c : ℕ) → has l c ≡ ltb 0 (count (eqb c) l)
has_count l c = has_any l c ∙ any_count_lem (eqb c) l

-- a number that isn't there is counted 0 times
not_counted : (l : List ℕ) (c : ℕ) → has l c ≡ false → count (eqb c) l ≤ 0
not_counted l c h = ltb-false 0 (count (eqb c) l) (sym (has_count l c) ∙ h)

-- no number stands twice: each is counted at most once
pub nodup_count : (l : List ℕ) → nodup l ≡ true → (c : ℕ) → count (eqb c) l ≤ 1
nodup_count [] n c = omega arith
nodup_count (x ∷ l) n c = go (decided (eqb c x)) (nodup_count l (nodup_tail x l n) c)
  where
    go : Decided (eqb c x) → count (eqb c) l ≤ 1 → bit (eqb c x) + count (eqb c) l ≤ 1
    go (inl e) ih = rw e (omega (arith, not_counted l c (rw (eqb-true c x e) (nodup_head x l n))))
    go (inr e) ih = rw e (omega arith)

-- and back
pub count_nodup : (l : List ℕ) → ((c : ℕ) → count (eqb c) l ≤ 1) → nodup l ≡ true
count_nodup [] h = refl
count_nodup (x ∷ l) h = rw (gone, count_nodup l (λ c. omega (arith, h c)))
  where
    gone : has l x ≡ false
    gone = has_count l x ∙ le-ltb 0 (count (eqb x) l) (omega (arith, rw (eq-eqb x x refl) at (h x)))

-- ---- what lists with the same counts have in common

module _ (k l : List ℕ) (same : Rearranged k l) where
  -- they are as long
  pub rearranged_length : length k ≡ length l
  rearranged_length = sym (count_all k) ∙ same (λ _. true) ∙ count_all l

  -- a test passes somewhere in both or in neither
  pub rearranged_any : (f : ℕ → Bool) → any f k ≡ any f l
  rearranged_any f = any_count_lem f k ∙ ap (ltb 0) (same f) ∙ sym (any_count_lem f l)

  -- they have the same members
  pub rearranged_has : (c : ℕ) → has k c ≡ has l c
  rearranged_has c = has_count k c ∙ ap (ltb 0) (same (eqb c)) ∙ sym (has_count l c)

  -- none stands twice, if none does in the other
  pub rearranged_nodup : nodup k ≡ true → nodup l ≡ true
  rearranged_nodup n = count_nodup l (λ c. omega (arith, nodup_count k n c, same (eqb c)))

-- ---- what only moves elements

-- the last element moved to the front
pub rotated_rearranged : (l : List ℕ) → Rearranged (rotated l) l
unfolding rotated
rotated_rearranged l f =
    omega (
      arith,
      count_append f (drop (length l - 1) l) (take (length l - 1) l),
      count_append f (take (length l - 1) l) (drop (length l - 1) l),
      ap (count f) (take-append-drop (length l - 1) l),
    )

-- the list turned round
pub reverse_rearranged : (l : List ℕ) → Rearranged (reverse l) l
reverse_rearranged [] f = refl
reverse_rearranged (x ∷ l) f = ap (count f) (reverse-cons x l) ∙ omega (arith, count_append f (reverse l) (x ∷ []), reverse_rearranged l f)

-- ---- how long a list is

-- a range is as long as it says
pub length_range : (a k : ℕ) → length (range a k) ≡ k
length_range a zero = refl
length_range a (suc k) = ap suc (length_range (suc a) k)

-- numbers below n, none twice, are at most n
pub nodup_below : (n : ℕ) (l : List ℕ) → nodup l ≡ true → ((c : ℕ) → has l c ≡ true → c < n) → length l ≤ n
nodup_below n l once below =
    omega (
      arith,
      count_all l,
      count_ext (λ _. true) (λ c. has (range 0 n) c && true) l (λ c h. rw (in_range 0 n c (omega arith) (omega (arith, below c h)))),
      count_shared (λ _. true) l (range 0 n) once (range_nodup 0 n),
      count_le (λ c. has l c && true) (range 0 n),
      length_range 0 n,
    )
