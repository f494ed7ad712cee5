-- A text stored at the front of a buffer, as far as the buffer goes: what stands there is the text as far as the buffer goes (`front_shown`). And a comparison
-- that is true exactly where two lists are equal is the definition's (`same_is`). Assumes nothing.
use mathlib.Core.Path.{◌≡◌, refl, ap, ◌∙◌}
use mathlib.Core.Bool.{Bool, true}
use mathlib.Core.List.{List, [], ◌∷◌}
use Prim.Native.Nat.{ℕ, zero, suc, ◌+◌, min}
use native.Mathlib.Omega.{arith}
use lib.ListN.{length, take, set}
use Rattle.std.proofs.lemmas.List.Edits.{sets}
use Rattle.lists.specs.Lists.{same}
use Rattle.lists.proofs.Tests.{same_test}
use Rattle.lists.proofs.PartedLists.{same_equal, same_self}

-- ---- at the front of a buffer

sets_none : (i : ℕ) (vs : List ℕ) → sets [] i vs ≡ []
sets_none i [] = refl
sets_none i (v ∷ vs) = sets_none (suc i) vs

sets_behind : (y : ℕ) (l : List ℕ) (i : ℕ) (vs : List ℕ) → sets (y ∷ l) (suc i) vs ≡ y ∷ sets l i vs
sets_behind y l i [] = refl
sets_behind y l i (v ∷ vs) = sets_behind y (set l i v) (suc i) vs

pub front_shown : (l vs : List ℕ) (n : ℕ) → n ≡ min (length l) (0 + length vs) → take n (sets l 0 vs) ≡ take (length l) vs
front_shown [] vs n e = let z : n ≡ 0 = omega arith in rw z
front_shown (y ∷ l) [] n e = let z : n ≡ 0 = omega arith in rw z
front_shown (y ∷ l) (v ∷ vs) zero e = absurd (omega arith)
front_shown (y ∷ l) (v ∷ vs) (suc n) e =
    ap (take (suc n)) (sets_behind v l 0 vs) ∙ ap (λ (k : List ℕ). v ∷ k) (front_shown l vs n (omega arith))

-- ---- two lists compared

pub same_is : (r : Bool) (k l : List ℕ) → (r ≡ true → k ≡ l) → (k ≡ l → r ≡ true) → r ≡ same k l
same_is r k l f g = same_test r (same k l) (λ e. rw (f e) (same_self l)) (λ e. g (same_equal k l e))
