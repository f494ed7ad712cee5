-- What several lists have together: lists one after another (`joined`), the numbers of one list added to another without repetition (`add_new`), and
-- two lists with a number in common (`meets`). For elements of any type, membership is the library's `List.Memᴰ`, a place at which the element
-- stands; for numbers it says the same as the test `has`. Assumes nothing.
use mathlib.Core.Path.{◌≡◌, refl, sym, ap, ◌∙◌}
use mathlib.Core.Logic.{◌⊎◌, inl, inr, ◌≢◌}
use mathlib.Core.Bool.{Bool, true, false, not, ◌||◌, or-false}
use mathlib.Core.List.Memᴰ
use mathlib.Core.List.{List, [], ◌∷◌, ◌++◌, map, Memᴰ}
use Prim.Native.Nat.{ℕ, zero, suc, ◌≤◌, ◌<◌}
use native.Mathlib.Omega.{arith}
use native.Mathlib.Nat.{not-suc-le-zero, le_of_suc-le-suc}
use lib.Dec.{eqb}
use lib.ListN.{length, get_or, length-append}
use borrow.Author.Tests.{eqb-true, eq-eqb, ne_eqb}
use Rattle.lists.specs.Lists.{any, all, empty, joined, has, nodup, meets, add_new}
use Rattle.lists.proofs.Tests.{Decided, decided, clash, same_test, or_cases, or_left, or_right}
use Rattle.lists.proofs.Members.{has_head, has_tail, has_append, nodup_append}
use Rattle.lists.proofs.Counts.{any_at, any_of}

-- ---- elements of any type

module _ {A : Type 0} where
  -- some element of two lists passes where one of the one or of the other does
  pub any_append : (f : A → Bool) (k l : List A) → any f (k ++ l) ≡ (any f k || any f l)
  any_append f [] l = refl
  any_append f (x ∷ k) l = go (f x) (any_append f k l)
    where
      go : (t : Bool) → any f (k ++ l) ≡ (any f k || any f l) → (t || any f (k ++ l)) ≡ ((t || any f k) || any f l)
      go true ih = refl
      go false ih = ih

  -- with one element more at the end
  pub any_push : (f : A → Bool) (l : List A) (x : A) → any f (l ++ (x ∷ [])) ≡ (any f l || f x)
  any_push f l x = any_append f l (x ∷ []) ∙ rw (or-false (f x))

  -- a test passes at all elements of a list where it passes at each
  pub all_of : (f : A → Bool) (l : List A) → ((x : A) → Memᴰ x l → f x ≡ true) → all f l ≡ true
  all_of f [] h = refl
  all_of f (x ∷ l) h = rw (h x (Memᴰ.head refl), all_of f l (λ y m. h y (Memᴰ.tail m)))

  -- the element at a place stands in the list
  pub mem_at : (l : List A) (k : ℕ) (d : A) → k < length l → Memᴰ (get_or l k d) l
  mem_at [] k d h = absurd (not-suc-le-zero h)
  mem_at (x ∷ l) zero d h = Memᴰ.head refl
  mem_at (x ∷ l) (suc k) d h = Memᴰ.tail (mem_at l k d (le_of_suc-le-suc h))

  -- what stands in one of the lists stands in them joined
  pub mem_joined : {x : A} {l : List A} {ls : List (List A)} → Memᴰ x l → Memᴰ l ls → Memᴰ x (joined ls)
  mem_joined {x} m (Memᴰ.head {x = k} {xs = ls} e) = Memᴰ.append_left (joined ls) (rw e at m)
  mem_joined m (Memᴰ.tail {x = k} {xs = ls} n) = Memᴰ.append_right k (mem_joined m n)

  -- and the other way round
  pub joined_mem : {x : A} (ls : List (List A)) → Memᴰ x (joined ls) → (l : List A) × Memᴰ l ls × Memᴰ x l
  joined_mem [] m = absurd (Memᴰ.not-nil m)
  joined_mem {x} (l ∷ ls) m = go (λ n. joined_mem ls n) (Memᴰ.append_cases l m)
    where
      go : (Memᴰ x (joined ls) → (k : List A) × Memᴰ k ls × Memᴰ x k) → Memᴰ x l ⊎ Memᴰ x (joined ls)
          → (k : List A) × Memᴰ k (l ∷ ls) × Memᴰ x k
      go ih (inl n) = (l, Memᴰ.head refl, n)
      go ih (inr n) = let (k, a, b) = ih n in (k, Memᴰ.tail a, b)

  -- lists of which none is empty are together at least as long as they are many
  pub many_joined : (ls : List (List A)) → all (λ l. not (empty l)) ls ≡ true → length ls ≤ length (joined ls)
  many_joined [] h = omega arith
  many_joined ([] ∷ ls) h = clash false h refl
  many_joined ((x ∷ l) ∷ ls) h = omega (arith, length-append l (joined ls), many_joined ls h)

  -- which numbers the lists of some elements have together
  pub has_joined_map : (g : A → List ℕ) (l : List A) (c : ℕ) → has (joined (map g l)) c ≡ any (λ x. has (g x) c) l
  has_joined_map g [] c = refl
  has_joined_map g (x ∷ l) c = has_append (g x) (joined (map g l)) c ∙ ap (λ (t : Bool). has (g x) c || t) (has_joined_map g l c)

-- ---- numbers

-- the two kinds of membership
pub mem_has : {c : ℕ} (l : List ℕ) → Memᴰ c l → has l c ≡ true
mem_has [] m = absurd (Memᴰ.not-nil m)
mem_has {c} (x ∷ l) (Memᴰ.head e) = or_left (eqb c x) (has l c) (eq-eqb c x e)
mem_has {c} (x ∷ l) (Memᴰ.tail m) = has_tail x l c (mem_has l m)

-- and back
pub has_mem : (l : List ℕ) (c : ℕ) → has l c ≡ true → Memᴰ c l
has_mem [] c h = clash false h refl
has_mem (x ∷ l) c h = go (or_cases (eqb c x) (has l c) h) (has_mem l c)
  where
    go : (eqb c x ≡ true) ⊎ (has l c ≡ true) → (has l c ≡ true → Memᴰ c l) → Memᴰ c (x ∷ l)
    go (inl e) ih = Memᴰ.head (eqb-true c x e)
    go (inr e) ih = Memᴰ.tail (ih e)

-- a number of two lists one after the other stands in one of them
pub append_cases : (k l : List ℕ) (c : ℕ) → has (k ++ l) c ≡ true → (has k c ≡ true) ⊎ (has l c ≡ true)
append_cases k l c h = or_cases (has k c) (has l c) (sym (has_append k l c) ∙ h)

-- where one number more stands at the end, it is that one or stands before it
pub last_cases : (l : List ℕ) (x c : ℕ) → has (l ++ (x ∷ [])) c ≡ true → (has l c ≡ true) ⊎ (c ≡ x)
last_cases l x c h = go (append_cases l (x ∷ []) c h)
  where
    one : (eqb c x ≡ true) ⊎ (false ≡ true) → c ≡ x
    one (inl e) = eqb-true c x e
    one (inr e) = clash false e refl

    go : (has l c ≡ true) ⊎ (has (x ∷ []) c ≡ true) → (has l c ≡ true) ⊎ (c ≡ x)
    go (inl e) = inl e
    go (inr e) = inr (one (or_cases (eqb c x) false e))

-- that one the list then has, and of others those that it had
pub last_own : (l : List ℕ) (x : ℕ) → has (l ++ (x ∷ [])) x ≡ true
last_own l x = has_append l (x ∷ []) x ∙ or_right (has l x) (has (x ∷ []) x) (has_head x [])

pub last_other : (l : List ℕ) (x c : ℕ) → c ≢ x → has (l ++ (x ∷ [])) c ≡ has l c
last_other l x c h = has_append l (x ∷ []) c ∙ rw (ne_eqb c x h) (or-false (has l c))

-- two lists meet exactly where a number stands in both
pub meets_at : (k l : List ℕ) → meets k l ≡ true → (c : ℕ) × (has k c ≡ true) × (has l c ≡ true)
meets_at k l h = any_at (has l) k h

pub meets_of : (k l : List ℕ) (c : ℕ) → has k c ≡ true → has l c ≡ true → meets k l ≡ true
meets_of k l c a b = any_of (has l) k c a b

-- so it does not matter which is named first
pub meets_turned : (k l : List ℕ) → meets k l ≡ true → meets l k ≡ true
meets_turned k l h = let (c, a, b) = meets_at k l h in meets_of l k c b a

pub meets_mutual : (k l : List ℕ) → meets k l ≡ meets l k
meets_mutual k l = same_test (meets k l) (meets l k) (meets_turned k l) (meets_turned l k)

-- ---- numbers added without repetition

-- the numbers of both
pub has_add_new : (l k : List ℕ) (c : ℕ) → has (add_new l k) c ≡ (has l c || has k c)
has_add_new l [] c = sym (or-false (has l c))
has_add_new l (x ∷ k) c = go (decided (has l x)) (λ h. has_add_new h k c)
  where
    regroup : (a b d : Bool) → ((a || (b || false)) || d) ≡ (a || (b || d))
    regroup true b d = refl
    regroup false true d = refl
    regroup false false d = refl

    known : Decided (eqb c x) → has l x ≡ true → (has l c || has k c) ≡ (has l c || (eqb c x || has k c))
    known (inl e) h = let w : c ≡ x = eqb-true c x e in rw (w, h)
    known (inr e) h = rw e

    go : Decided (has l x) → ((h : List ℕ) → has (add_new h k) c ≡ (has h c || has k c))
        → has (add_new l (x ∷ k)) c ≡ (has l c || has (x ∷ k) c)
    go (inl h) ih = rw h (ih l ∙ known (decided (eqb c x)) h)
    go (inr h) ih = rw h (ih (l ++ (x ∷ [])) ∙ rw (has_append l (x ∷ []) c) (regroup (has l c) (eqb c x) (has k c)))

-- none twice, if none was
pub nodup_add_new : (l k : List ℕ) → nodup l ≡ true → nodup (add_new l k) ≡ true
nodup_add_new l [] n = n
nodup_add_new l (x ∷ k) n = go (decided (has l x)) (λ h. nodup_add_new h k)
  where
    apart : has l x ≡ false → (c : ℕ) → has l c ≡ true → has (x ∷ []) c ≡ false
    apart h c e = rw (ne_eqb c x (λ w. clash (has l x) (rw w at e) h))

    go : Decided (has l x) → ((h : List ℕ) → nodup h ≡ true → nodup (add_new h k) ≡ true) → nodup (add_new l (x ∷ k)) ≡ true
    go (inl h) ih = rw h (ih l n)
    go (inr h) ih = rw h (ih (l ++ (x ∷ [])) (nodup_append l (x ∷ []) n refl (apart h)))
