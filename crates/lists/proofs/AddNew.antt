-- Numbers added to a list where it does not have them yet: one number, one list of numbers after another, and that the list never becomes shorter.
-- Which numbers it then has stands in Unions. Assumes nothing.
use Prim.Native.Nat.{ℕ, ◌≤◌}
use mathlib.Core.Path.{◌≡◌, refl}
use mathlib.Core.Logic.{inl, inr}
use mathlib.Core.Bool.{true, false, cond}
use mathlib.Core.List.{List, [], ◌∷◌, ◌++◌}
use native.Mathlib.Omega.{arith}
use lib.ListN.{length, length-append}
use Rattle.lists.specs.Lists.{all, has, add_new}
use Rattle.lists.proofs.Tests.{Decided, decided}
use Rattle.lists.proofs.All.{all_head, all_tail}

-- a number that is there, and one that is not
pub add_new_there : (l : List ℕ) (x : ℕ) (k : List ℕ) → has l x ≡ true → add_new l (x ∷ k) ≡ add_new l k
add_new_there l x k h = rw h

pub add_new_push : (l : List ℕ) (x : ℕ) (k : List ℕ) → has l x ≡ false → add_new l (x ∷ k) ≡ add_new (l ++ (x ∷ [])) k
add_new_push l x k h = rw h

-- one list after another
pub add_new_append : (l k r : List ℕ) → add_new l (k ++ r) ≡ add_new (add_new l k) r
add_new_append l [] r = refl
add_new_append l (x ∷ k) r = add_new_append (cond (has l x) l (l ++ (x ∷ []))) k r

-- the list never becomes shorter
pub add_new_longer : (l k : List ℕ) → length l ≤ length (add_new l k)
add_new_longer l [] = omega arith
add_new_longer l (x ∷ k) = go (decided (has l x)) (add_new_longer l k) (add_new_longer (l ++ (x ∷ [])) k)
  where
    go : Decided (has l x) → length l ≤ length (add_new l k) → length (l ++ (x ∷ [])) ≤ length (add_new (l ++ (x ∷ [])) k) → length l ≤ length (add_new l (x ∷ k))
    go (inl h) same more = rw h same
    go (inr h) same more = rw h (omega (arith, length-append l (x ∷ [])))

-- nothing is added where all is there
pub add_new_none : (l k : List ℕ) → all (has l) k ≡ true → add_new l k ≡ l
add_new_none l [] h = refl
add_new_none l (x ∷ k) h = rw (all_head (has l) x k h) (add_new_none l k (all_tail (has l) x k h))
