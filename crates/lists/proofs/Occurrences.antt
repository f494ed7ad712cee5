-- Which elements, of any type, stand in a list: in one that is kept by a test, turned round or mapped, where some or all elements pass a test,
-- and what two tests that agree say. `List.Memᴰ x l`, a place at which x stands, is the library's. For numbers it says the same as the test `has`. Assumes nothing.
use mathlib.Core.Path.{◌≡◌, refl, sym}
use mathlib.Core.Logic.{◌⊎◌, inl, inr}
use mathlib.Core.Bool.{Bool, true, false}
use mathlib.Core.List.Memᴰ
use mathlib.Core.List.{List, [], ◌∷◌, ◌++◌, map, reverse, reverse-cons, Memᴰ}
use Prim.Native.Nat.{ℕ}
use Rattle.lists.specs.Lists.{keep, any, all, empty, has}
use Rattle.lists.proofs.Tests.{Decided, decided, clash, same_test, or_cases, or_left, or_right}
use Rattle.lists.proofs.All.{all_head, all_tail}
use Rattle.lists.proofs.Unions.{mem_has, has_mem}

module _ {A : Type 0} where
  -- ---- what is kept

  pub kept_in : (f : A → Bool) (l : List A) (x : A) → Memᴰ x (keep f l) → Memᴰ x l × (f x ≡ true)
  kept_in f [] x m = absurd (Memᴰ.not-nil m)
  kept_in f (y ∷ l) x m = go (decided (f y)) (λ k. kept_in f l x k)
    where
      below : Memᴰ x l × (f x ≡ true) → Memᴰ x (y ∷ l) × (f x ≡ true)
      below w = (Memᴰ.tail w.0, w.1)

      go : Decided (f y) → (Memᴰ x (keep f l) → Memᴰ x l × (f x ≡ true)) → Memᴰ x (y ∷ l) × (f x ≡ true)
      go (inl e) ih = first (Memᴰ.cases_cons (rw e at m))
        where
          first : (x ≡ y) ⊎ Memᴰ x (keep f l) → Memᴰ x (y ∷ l) × (f x ≡ true)
          first (inl w) = (Memᴰ.head w, rw w e)
          first (inr k) = below (ih k)
      go (inr e) ih = below (ih (rw e at m))

  pub in_kept : (f : A → Bool) {x : A} (l : List A) → Memᴰ x l → f x ≡ true → Memᴰ x (keep f l)
  in_kept f [] m h = absurd (Memᴰ.not-nil m)
  in_kept f {x} (y ∷ l) m h = go (decided (f y)) (Memᴰ.cases_cons m) (λ k. in_kept f l k h)
    where
      go : Decided (f y) → (x ≡ y) ⊎ Memᴰ x l → (Memᴰ x l → Memᴰ x (keep f l)) → Memᴰ x (keep f (y ∷ l))
      go (inl e) (inl w) ih = rw e (Memᴰ.head w)
      go (inl e) (inr k) ih = rw e (Memᴰ.tail (ih k))
      go (inr e) (inl w) ih = clash (f y) (rw w at h) e
      go (inr e) (inr k) ih = rw e (ih k)

  -- ---- turned round

  pub reverse_in : {x : A} (l : List A) → Memᴰ x (reverse l) → Memᴰ x l
  reverse_in [] m = m
  reverse_in {x} (y ∷ l) m = go (Memᴰ.append_cases (reverse l) (rw (reverse-cons y l) at m)) (λ k. reverse_in l k)
    where
      go : Memᴰ x (reverse l) ⊎ Memᴰ x (y ∷ []) → (Memᴰ x (reverse l) → Memᴰ x l) → Memᴰ x (y ∷ l)
      go (inl k) ih = Memᴰ.tail (ih k)
      go (inr k) ih = Memᴰ.head (Memᴰ.eq_of_singleton k)

  pub in_reverse : {x : A} (l : List A) → Memᴰ x l → Memᴰ x (reverse l)
  in_reverse [] m = m
  in_reverse {x} (y ∷ l) m = rw (reverse-cons y l) (go (Memᴰ.cases_cons m) (λ k. in_reverse l k))
    where
      go : (x ≡ y) ⊎ Memᴰ x l → (Memᴰ x l → Memᴰ x (reverse l)) → Memᴰ x (reverse l ++ (y ∷ []))
      go (inl e) ih = Memᴰ.append_right (reverse l) (Memᴰ.head e)
      go (inr k) ih = Memᴰ.append_left (y ∷ []) (ih k)

  -- ---- no element

  pub empty_nothing : (l : List A) {x : A} → empty l ≡ true → Memᴰ x l → ⊥
  empty_nothing [] h m = Memᴰ.not-nil m
  empty_nothing (x ∷ l) h m = clash true refl (sym h)

  pub not_empty : (l : List A) → empty l ≡ false → (x : A) × Memᴰ x l
  not_empty [] h = clash true refl h
  not_empty (x ∷ l) h = (x, Memᴰ.head refl)

  pub empty_nil : (l : List A) → empty l ≡ true → l ≡ []
  empty_nil [] h = refl
  empty_nil (x ∷ l) h = clash true refl (sym h)

  -- ---- some pass, all pass

  pub any_in : (f : A → Bool) (l : List A) → any f l ≡ true → (x : A) × Memᴰ x l × (f x ≡ true)
  any_in f [] h = clash false h refl
  any_in f (y ∷ l) h = go (or_cases (f y) (any f l) h) (any_in f l)
    where
      go : (f y ≡ true) ⊎ (any f l ≡ true) → (any f l ≡ true → (x : A) × Memᴰ x l × (f x ≡ true)) → (x : A) × Memᴰ x (y ∷ l) × (f x ≡ true)
      go (inl e) ih = (y, Memᴰ.head refl, e)
      go (inr e) ih = let (x, m, t) = ih e in (x, Memᴰ.tail m, t)

  pub in_any : (f : A → Bool) {x : A} (l : List A) → Memᴰ x l → f x ≡ true → any f l ≡ true
  in_any f [] m h = absurd (Memᴰ.not-nil m)
  in_any f {x} (y ∷ l) m h = go (Memᴰ.cases_cons m) (λ k. in_any f l k h)
    where
      go : (x ≡ y) ⊎ Memᴰ x l → (Memᴰ x l → any f l ≡ true) → any f (y ∷ l) ≡ true
      go (inl w) ih = or_left (f y) (any f l) (rw w at h)
      go (inr k) ih = or_right (f y) (any f l) (ih k)

  pub all_in : (f : A → Bool) {x : A} (l : List A) → all f l ≡ true → Memᴰ x l → f x ≡ true
  all_in f [] h m = absurd (Memᴰ.not-nil m)
  all_in f {x} (y ∷ l) h m = go (Memᴰ.cases_cons m) (λ k. all_in f l (all_tail f y l h) k)
    where
      go : (x ≡ y) ⊎ Memᴰ x l → (Memᴰ x l → f x ≡ true) → f x ≡ true
      go (inl w) ih = rw w (all_head f y l h)
      go (inr k) ih = ih k

  -- ---- two tests that agree on the list's elements

  module _ (f g : A → Bool) where
    pub keep_agree : (l : List A) → ((x : A) → Memᴰ x l → f x ≡ g x) → keep f l ≡ keep g l
    keep_agree [] h = refl
    keep_agree (y ∷ l) h = rw (h y (Memᴰ.head refl), keep_agree l (λ x m. h x (Memᴰ.tail m)))

    pub any_agree : (l : List A) → ((x : A) → Memᴰ x l → f x ≡ g x) → any f l ≡ any g l
    any_agree [] h = refl
    any_agree (y ∷ l) h = rw (h y (Memᴰ.head refl), any_agree l (λ x m. h x (Memᴰ.tail m)))

-- ---- mapped

pub map_in : {A B : Type 0} (g : A → B) {y : B} (l : List A) → Memᴰ y (map g l) → (x : A) × Memᴰ x l × (y ≡ g x)
map_in g l m = let (x, n, w) = Memᴰ.of_map g l m in (x, n, sym w)

-- ---- numbers

pub has_reverse : (l : List ℕ) (c : ℕ) → has (reverse l) c ≡ has l c
has_reverse l c = same_test (has (reverse l) c) (has l c) (λ h. mem_has l (reverse_in l (has_mem (reverse l) c h))) (λ h. mem_has (reverse l) (in_reverse l (has_mem l c h)))
