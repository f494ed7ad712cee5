-- Sets of numbers kept in arrays of bytes, written from 0 on: the numbers below n that pass a test are marked, then n if it passes. And what is read back from
-- an array that held nothing before. Assumes nothing.
use mathlib.Core.Path.{◌≡◌, refl, ap, ◌∙◌}
use mathlib.Core.Logic.{inl, inr}
use mathlib.Core.Bool.{Bool, true, false, cond, ◌&&◌, ◌||◌, and-false, or-false}
use mathlib.Core.List.{List}
use Prim.Native.Nat.{ℕ, ◌+◌, ◌<◌}
use native.Mathlib.Omega.{arith}
use lib.Dec.{leb, ltb, eqb}
use lib.ListN.{length, get_or, set, replicate, length-set, length-replicate}
use lib.Seq.{get_or-set_same, get_or-set_other}
use borrow.Author.Tests.{ltb-true, leb-true, lt-ltb, le-ltb, le-leb, eqb-true, eqb-false}
use Rattle.lists.proofs.Tests.{Decided, decided, same_test}
use Rattle.lists.proofs.Elements.{replicate_all}
use Rattle.counting.specs.Counting.{Marked}
use Rattle.counting.proofs.Marks.{marked_nowhere}

-- ---- one number after another

-- a number other than n is below n or not below n + 1
pub below_other : (x n : ℕ) → (x ≡ n → ⊥) → ltb x n ≡ ltb x (n + 1)
below_other x n h =
    same_test (ltb x n) (ltb x (n + 1)) (λ e. lt-ltb x (n + 1) (omega (arith, ltb-true x n e))) (λ e. lt-ltb x n (omega (arith, ltb-true x (n + 1) e, h)))

pub below_next : (x n : ℕ) → ltb x (n + 1) ≡ leb x n
below_next x n = same_test (ltb x (n + 1)) (leb x n) (λ e. le-leb x n (omega (arith, ltb-true x (n + 1) e))) (λ e. lt-ltb x (n + 1) (omega (arith, leb-true x n e)))

pub marked_at_first : (f : ℕ → Bool) (a : List ℕ) → Marked (λ x. ltb x 0 && f x) a a
marked_at_first f a = marked_nowhere (λ x. ltb x 0 && f x) a (λ x. rw (le-ltb x 0 (omega arith)))

module _ (f : ℕ → Bool) (n : ℕ) {a b : List ℕ} (m : Marked (λ x. ltb x n && f x) a b) where
  other : (x : ℕ) → (x ≡ n → ⊥) → get_or b x 0 ≡ cond (ltb x (n + 1) && f x) 1 (get_or a x 0)
  other x h = m.at x ∙ rw (below_other x n h)

  -- n passes
  pub marked_next : n < length b → f n ≡ true → Marked (λ x. ltb x (n + 1) && f x) a (set b n 1)
  marked_next h e = record { whole = length-set b n 1 ∙ m.whole; at = λ x. go x (decided (eqb x n)) }
    where
      go : (x : ℕ) → Decided (eqb x n) → get_or (set b n 1) x 0 ≡ cond (ltb x (n + 1) && f x) 1 (get_or a x 0)
      go x (inl w) = rw (eqb-true x n w, lt-ltb n (n + 1) (omega arith), e) (get_or-set_same b n 1 0 h)
      go x (inr w) = get_or-set_other b n x 1 0 (eqb-false x n w) ∙ other x (eqb-false x n w)

  -- n does not
  pub marked_not_next : f n ≡ false → Marked (λ x. ltb x (n + 1) && f x) a b
  marked_not_next e = record { whole = m.whole; at = λ x. go x (decided (eqb x n)) }
    where
      go : (x : ℕ) → Decided (eqb x n) → get_or b x 0 ≡ cond (ltb x (n + 1) && f x) 1 (get_or a x 0)
      go x (inl w) = m.at x ∙ rw (eqb-true x n w, e, and-false (ltb n n), and-false (ltb n (n + 1)))
      go x (inr w) = other x (eqb-false x n w)

-- ---- read back

-- a number is in the set where it was marked, now or before
pub marked_read : {f : ℕ → Bool} {a b : List ℕ} → Marked f a b → (x : ℕ) → eqb (get_or b x 0) 1 ≡ (f x || eqb (get_or a x 0) 1)
marked_read {f} {a} m x = ap (λ (y : ℕ). eqb y 1) (m.at x) ∙ go (f x)
  where
    go : (t : Bool) → eqb (cond t 1 (get_or a x 0)) 1 ≡ (t || eqb (get_or a x 0) 1)
    go true = refl
    go false = refl

-- an array of zeros holds nothing
pub zeros_read : (n x : ℕ) → eqb (get_or (replicate n 0) x 0) 1 ≡ false
zeros_read n x = replicate_all (λ i y. eqb y 1 ≡ false) n 0 0 (λ i h. refl) (λ i h. refl) x

-- so after the last number it holds those that pass
pub marked_up_to : (f : ℕ → Bool) (size last : ℕ) {b : List ℕ} → Marked (λ x. ltb x (last + 1) && f x) (replicate size 0) b
    → (length b ≡ size) × ((x : ℕ) → eqb (get_or b x 0) 1 ≡ (leb x last && f x))
marked_up_to f size last m =
    (m.whole ∙ length-replicate {A = ℕ} size 0, λ x. marked_read m x ∙ rw (zeros_read size x, or-false (ltb x (last + 1) && f x), below_next x last))
