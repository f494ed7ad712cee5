-- Elements of any type: where no element passes a test, and what is true of each element, of lists that are kept, mapped, turned round and joined.
-- Membership is the library's `List.Memᴰ`, a place at which the element stands. Rests on `Occurrences`. Assumes nothing.
use mathlib.Core.Path.{◌≡◌, refl, sym, ap, ◌∙◌}
use mathlib.Core.Bool.{Bool, true, false, cond, ◌&&◌, ◌||◌, or-false, or_comm}
use mathlib.Core.List.Memᴰ
use mathlib.Core.List.{List, [], ◌∷◌, map, reverse, reverse-cons, Memᴰ}
use Rattle.lists.specs.Lists.{keep, any, joined}
use Rattle.lists.proofs.Unions.{any_append, mem_joined, joined_mem}
use Rattle.lists.proofs.Occurrences.{kept_in}

-- a test that implies another fails where that fails
pub not_passes : (a b : Bool) → (a ≡ true → b ≡ true) → b ≡ false → a ≡ false
not_passes true b h e = sym (h refl) ∙ e
not_passes false b h e = refl

module _ {A : Type 0} where
  -- ---- some element passes

  -- none passes
  pub any_none : (f : A → Bool) (l : List A) → ((x : A) → Memᴰ x l → f x ≡ false) → any f l ≡ false
  any_none f [] h = refl
  any_none f (x ∷ l) h = rw (h x (Memᴰ.head refl)) (any_none f l (λ y m. h y (Memᴰ.tail m)))

  -- of the list turned round
  pub any_reverse : (f : A → Bool) (l : List A) → any f (reverse l) ≡ any f l
  any_reverse f [] = refl
  any_reverse f (x ∷ l) = ap (any f) (reverse-cons x l) ∙ any_append f (reverse l) (x ∷ []) ∙ rw (any_reverse f l, or-false (f x)) (or_comm (any f l) (f x))

  -- ---- what is kept

  -- some element that is kept passes another test
  pub any_keep : (f g : A → Bool) (l : List A) → any f (keep g l) ≡ any (λ x. g x && f x) l
  any_keep f g [] = refl
  any_keep f g (x ∷ l) = go (g x) (any_keep f g l)
    where
      go : (t : Bool) → any f (keep g l) ≡ any (λ y. g y && f y) l
          → any f (cond t (x ∷ keep g l) (keep g l)) ≡ ((t && f x) || any (λ y. g y && f y) l)
      go true ih = rw ih
      go false ih = ih

  -- ---- what is true of each element

  -- a claim is true of each element of a list
  abbrev pub Each : (A → Type 0) → List A → Type 0
  Each P l = (x : A) → Memᴰ x l → P x

  -- then it is true of each that is kept
  pub each_kept : (P : A → Type 0) (f : A → Bool) (l : List A) → Each P l → Each P (keep f l)
  each_kept P f l h x m = h x (kept_in f l x m).0

-- ---- what is mapped and joined

module _ {A B : Type 0} where
  -- some element that a function gives passes
  pub any_map : (f : B → Bool) (g : A → B) (l : List A) → any f (map g l) ≡ any (λ x. f (g x)) l
  any_map f g [] = refl
  any_map f g (x ∷ l) = ap (λ (t : Bool). f (g x) || t) (any_map f g l)

  -- some element of the lists of some elements passes
  pub any_joined_map : (f : B → Bool) (g : A → List B) (l : List A) → any f (joined (map g l)) ≡ any (λ x. any f (g x)) l
  any_joined_map f g [] = refl
  any_joined_map f g (x ∷ l) = any_append f (g x) (joined (map g l)) ∙ ap (λ (t : Bool). any f (g x) || t) (any_joined_map f g l)

  -- what is true of each element that a function gives is true of the list that it gives
  pub each_mapped : (P : B → Type 0) (g : A → B) (l : List A) → Each (λ x. P (g x)) l → Each P (map g l)
  each_mapped P g l h y m = let (x, n, w) = Memᴰ.of_map g l m in rw (← w) (h x n)

  -- what is true of each element of each list is true of each of the lists joined
  pub each_joined : (P : B → Type 0) (g : A → List B) (l : List A) → Each (λ x. Each P (g x)) l → Each P (joined (map g l))
  each_joined P g l h y m =
      let (k, n, o) = joined_mem (map g l) m in
      let (x, q, w) = Memᴰ.of_map g l n in
      h x q y (rw (← w) at o)

  -- and back
  pub joined_each : (P : B → Type 0) (g : A → List B) (l : List A) → Each P (joined (map g l)) → Each (λ x. Each P (g x)) l
  joined_each P g l h x m y n = h y (mem_joined n (Memᴰ.map g m))
