-- The numbers of one list stand among those of another, each at most as often, where every test counts at most as many in the first. So the first is no
-- longer than the second, has no other members, and none twice if the second has none twice. Rests on the laws of counts. Assumes nothing.
use mathlib.Core.Path.{◌≡◌, refl, sym, ap, ◌∙◌}
use mathlib.Core.Logic.{◌⊎◌, inl, inr}
use mathlib.Core.Bool.{Bool, true, false, cond, ◌&&◌}
use mathlib.Core.List.Memᴰ
use mathlib.Core.List.{List, [], ◌∷◌, ◌++◌, map, reverse, reverse-cons, Memᴰ}
use Prim.Native.Nat.{ℕ, ◌+◌, ◌≤◌}
use native.Mathlib.Omega.{arith}
use lib.Dec.{eqb}
use lib.ListN.{length}
use borrow.Author.Tests.{lt-ltb, ltb-true}
use Rattle.lists.specs.Lists.{bit, keep, count, has, nodup, joined}
use Rattle.lists.proofs.Tests.{Decided, decided}
use Rattle.lists.proofs.Members.{has_head, has_tail}
use Rattle.lists.proofs.Counts.{count_ext, count_append, count_split, count_kept, count_shared}
use Rattle.lists.proofs.Unions.{mem_joined, mem_has, has_mem}
use Rattle.lists.proofs.Joined.{joined_push}
use Rattle.lists.proofs.Rearranged.{Rearranged, count_all, has_count, nodup_count, count_nodup}

-- every test counts at most as many in the first list as in the second
abbrev pub Among : List ℕ → List ℕ → Type 0
Among k l = (f : ℕ → Bool) → count f k ≤ count f l

-- ---- what it says

module _ (k l : List ℕ) (within : Among k l) where
  -- the first is no longer
  pub among_length : length k ≤ length l
  among_length = omega (arith, within (λ _. true), count_all k, count_all l)

  -- its numbers stand in the second
  pub among_has : (c : ℕ) → has k c ≡ true → has l c ≡ true
  among_has c h =
      has_count l c
      ∙ lt-ltb 0 (count (eqb c) l) (omega (arith, within (eqb c), ltb-true 0 (count (eqb c) k) (sym (has_count k c) ∙ h)))

  -- none twice, if none stands twice in the second
  pub among_nodup : nodup l ≡ true → nodup k ≡ true
  among_nodup n = count_nodup k (λ c. omega (arith, within (eqb c), nodup_count l n c))

-- ---- which lists stand among others

-- a list, before another
pub among_left : (k l : List ℕ) → Among k (k ++ l)
among_left k l f = omega (arith, count_append f k l)

-- and behind another
pub among_right : (k l : List ℕ) → Among l (k ++ l)
among_right k l f = omega (arith, count_append f k l)

-- a list without repetition of numbers that the other has
pub nodup_among : (k l : List ℕ) → nodup k ≡ true → nodup l ≡ true → ((c : ℕ) → has k c ≡ true → has l c ≡ true) → Among k l
nodup_among k l a b h f =
    omega (
      arith,
      count_ext f (λ c. has l c && f c) k (λ c e. rw (h c e)),
      count_shared f k l a b,
      count_kept f (has k) l,
      count_split f (has k) l,
    )

-- what is kept
pub keep_among : (g : ℕ → Bool) (l : List ℕ) → Among (keep g l) l
keep_among g l f = omega (arith, count_split f g l)

-- what two tests keep, where no number passes both
pub keep_both_among : (g h : ℕ → Bool) (l : List ℕ) → ((c : ℕ) → has l c ≡ true → g c ≡ true → h c ≡ false) → Among (keep g l ++ keep h l) l
keep_both_among g h l apart f = omega (arith, count_append f (keep g l) (keep h l), kept l apart)
  where
    kept : (k : List ℕ) → ((c : ℕ) → has k c ≡ true → g c ≡ true → h c ≡ false) → count f (keep g k) + count f (keep h k) ≤ count f k
    kept [] a = omega arith
    kept (x ∷ k) a = go (decided (g x)) (h x) refl (kept k (λ c e. a c (has_tail x k c e)))
      where
        go : Decided (g x) → (t : Bool) → h x ≡ t → count f (keep g k) + count f (keep h k) ≤ count f k
            → count f (keep g (x ∷ k)) + count f (keep h (x ∷ k)) ≤ bit (f x) + count f k
        go (inl e) t w ih = rw (e, a x (has_head x k) e) (omega arith)
        go (inr e) true w ih = rw (e, w) (omega arith)
        go (inr e) false w ih = rw (e, w) (omega arith)

-- ---- lists of some elements, one after another

module _ {A : Type 0} (g : A → List ℕ) where
  -- from the last element to the first, the same numbers
  pub joined_reverse : (l : List A) → Rearranged (joined (map g (reverse l))) (joined (map g l))
  joined_reverse [] f = refl
  joined_reverse (x ∷ l) f =
      ap (λ (k : List A). count f (joined (map g k))) (reverse-cons x l)
      ∙ ap (count f) (joined_push g (reverse l) x)
      ∙ omega (arith, count_append f (joined (map g (reverse l))) (g x), count_append f (g x) (joined (map g l)), joined_reverse l f)

  -- of the elements that are kept
  pub joined_keep_among : (t : A → Bool) (l : List A) → Among (joined (map g (keep t l))) (joined (map g l))
  joined_keep_among t [] f = omega arith
  joined_keep_among t (x ∷ l) f = go (t x) (joined_keep_among t l f)
    where
      go : (v : Bool) → count f (joined (map g (keep t l))) ≤ count f (joined (map g l))
          → count f (joined (map g (cond v (x ∷ keep t l) (keep t l)))) ≤ count f (g x ++ joined (map g l))
      go true ih = omega (arith, count_append f (g x) (joined (map g (keep t l))), count_append f (g x) (joined (map g l)))
      go false ih = omega (arith, count_append f (g x) (joined (map g l)))

  -- where the list of each element stands among another one
  pub joined_among : (h : A → List ℕ) (l : List A) → ((x : A) → Memᴰ x l → Among (g x) (h x)) → Among (joined (map g l)) (joined (map h l))
  joined_among h [] a f = omega arith
  joined_among h (x ∷ l) a f =
      omega (
        arith,
        count_append f (g x) (joined (map g l)),
        count_append f (h x) (joined (map h l)),
        a x (Memᴰ.head refl) f,
        joined_among h l (λ y m. a y (Memᴰ.tail m)) f,
      )

  -- two lists for each element
  pub joined_both : (h : A → List ℕ) (l : List A) → Rearranged (joined (map g l) ++ joined (map h l)) (joined (map (λ x. g x ++ h x) l))
  joined_both h [] f = refl
  joined_both h (x ∷ l) f =
      omega (
        arith,
        count_append f (g x ++ joined (map g l)) (h x ++ joined (map h l)),
        count_append f (g x) (joined (map g l)),
        count_append f (h x) (joined (map h l)),
        count_append f (g x ++ h x) (joined (map (λ y. g y ++ h y) l)),
        count_append f (g x) (h x),
        count_append f (joined (map g l)) (joined (map h l)),
        joined_both h l f,
      )

  -- where no number stands twice in them all, a number is in the list of one element only
  pub joined_once : (l : List A) → nodup (joined (map g l)) ≡ true → (x y : A) → Memᴰ x l → Memᴰ y l
      → (c : ℕ) → has (g x) c ≡ true → has (g y) c ≡ true → x ≡ y
  joined_once [] n x y a b c h k = absurd (Memᴰ.not-nil a)
  joined_once (z ∷ l) n x y a b c h k =
      go (Memᴰ.cases_cons a) (Memᴰ.cases_cons b)
      (λ u v. joined_once l (among_nodup (joined (map g l)) (g z ++ joined (map g l)) (among_right (g z) (joined (map g l))) n) x y u v c h k)
    where
      later : (w : A) → Memᴰ w l → has (g w) c ≡ true → has (joined (map g l)) c ≡ true
      later w m e = mem_has (joined (map g l)) (mem_joined (has_mem (g w) c e) (Memᴰ.map g m))

      twice : has (g z) c ≡ true → has (joined (map g l)) c ≡ true → ⊥
      twice e d =
          omega (
            arith,
            nodup_count (g z ++ joined (map g l)) n c,
            count_append (eqb c) (g z) (joined (map g l)),
            ltb-true 0 (count (eqb c) (g z)) (sym (has_count (g z) c) ∙ e),
            ltb-true 0 (count (eqb c) (joined (map g l))) (sym (has_count (joined (map g l)) c) ∙ d),
          )

      go : (x ≡ z) ⊎ Memᴰ x l → (y ≡ z) ⊎ Memᴰ y l → (Memᴰ x l → Memᴰ y l → x ≡ y) → x ≡ y
      go (inl u) (inl v) ih = u ∙ sym v
      go (inl u) (inr v) ih = absurd (twice (rw u at h) (later y v k))
      go (inr u) (inl v) ih = absurd (twice (rw v at k) (later x u h))
      go (inr u) (inr v) ih = ih u v
