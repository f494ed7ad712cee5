-- A list read from its last element to its first: the last number of a range, what is kept of a list, turned round,
-- and a list mapped, turned round. Assumes nothing.
use mathlib.Core.Path.{◌≡◌, refl, sym, ap, ◌∙◌}
use mathlib.Core.Bool.{Bool, true, false}
use mathlib.Core.List.{List, [], ◌∷◌, ◌++◌, map, map-append, append-nil, reverse, reverse-cons, reverse-append}
use Prim.Native.Nat.{ℕ, suc, ◌+◌, ◌-◌, ◌<◌}
use native.Mathlib.Omega.{arith}
use Rattle.lists.specs.Lists.{range, keep}
use Rattle.lists.proofs.Members.{range_last}
use Rattle.lists.proofs.Kept.{keep_append}

-- ---- ranges

-- the numbers from a up to e, e left out, end with the one before e
pub range_back : (a e : ℕ) → a < e → range a (e - a) ≡ range a (e - 1 - a) ++ ((e - 1) ∷ [])
range_back a e h =
    let n : e - a ≡ suc (e - 1 - a) = omega arith in
    let m : a + (e - 1 - a) ≡ e - 1 = omega arith in
    ap (range a) n ∙ range_last a (e - 1 - a) ∙ ap (λ (x : ℕ). range a (e - 1 - a) ++ (x ∷ [])) m

-- the numbers below b, turned round, begin with the one before b
pub range_turned : (b : ℕ) → 0 < b → reverse (range 0 b) ≡ (b - 1) ∷ reverse (range 0 (b - 1))
range_turned b h =
    let n : b - 0 ≡ b = omega arith in
    let m : b - 1 - 0 ≡ b - 1 = omega arith in
    ap reverse (rw (n, m) at (range_back 0 b h)) ∙ reverse-append (range 0 (b - 1)) ((b - 1) ∷ [])

-- ---- what is kept, turned round

module _ {A : Type 0} where
  module _ (f : A → Bool) (l : List A) (x : A) where
    pub back_kept : f x ≡ true → reverse (keep f (l ++ (x ∷ []))) ≡ x ∷ reverse (keep f l)
    back_kept h = ap reverse (keep_append f l (x ∷ []) ∙ ap (λ (k : List A). keep f l ++ k) (rw h)) ∙ reverse-append (keep f l) (x ∷ [])

    pub back_passed : f x ≡ false → reverse (keep f (l ++ (x ∷ []))) ≡ reverse (keep f l)
    back_passed h = ap reverse (keep_append f l (x ∷ []) ∙ ap (λ (k : List A). keep f l ++ k) (rw h) ∙ append-nil (keep f l))

module _ {A B : Type 0} (g : A → B) where
  pub reverse_map : (l : List A) → reverse (map g l) ≡ map g (reverse l)
  reverse_map [] = refl
  reverse_map (x ∷ l) =
      reverse-cons (g x) (map g l)
      ∙ ap (λ (k : List B). k ++ (g x ∷ [])) (reverse_map l)
      ∙ sym (map-append g (reverse l) (x ∷ []))
      ∙ ap (map g) (sym (reverse-cons x l))
