-- Rows that bring the mines to an allowed number, and what they give the groups: of two lists of rows, and of rows with a value more before each, whose mines are
-- then counted with those that were set. Assumes nothing.
use mathlib.Core.Path.{◌≡◌, refl, ap, ◌∙◌}
use mathlib.Core.Bool.{Bool, true, false, ◌&&◌, ◌||◌}
use mathlib.Core.List.{List, [], ◌∷◌, ◌++◌, map}
use Prim.Native.Nat.{ℕ, ◌+◌}
use native.Mathlib.Omega.{arith}
use lib.Dec.{eqb}
use lib.ListN.{get_or}
use Rattle.lists.specs.Lists.{any}
use Rattle.lists.proofs.Unions.{any_append}
use Rattle.lists.proofs.Occurrences.{any_agree}
use Rattle.lists.proofs.PassingElements.{any_map}
use Rattle.search.specs.Solutions.{sum}
use Rattle.counting.specs.Counting.{counts_to, some_counts, gives}

module _ (allowed : List ℕ) (count : ℕ) where
  -- of two lists of rows
  pub some_append : (test : List ℕ → Bool) (xs ys : List (List ℕ)) → some_counts allowed count test (xs ++ ys) ≡ (some_counts allowed count test xs || some_counts allowed count test ys)
  some_append test xs ys = any_append (λ (row : List ℕ). counts_to allowed count row && test row) xs ys

  module _ (v : ℕ) where
    -- a row with the value before it counts where the row does once the value is set
    counts_value : (row : List ℕ) → counts_to allowed count (v ∷ row) ≡ counts_to allowed (count + v) row
    counts_value row = let e : count + (v + sum row) ≡ count + v + sum row = omega arith in ap (λ (n : ℕ). eqb (get_or allowed n 0) 1) e

    pub any_value : (rows : List (List ℕ)) → any (counts_to allowed count) (map (λ (row : List ℕ). v ∷ row) rows) ≡ any (counts_to allowed (count + v)) rows
    any_value rows =
        any_map (counts_to allowed count) (λ (row : List ℕ). v ∷ row) rows
        ∙ any_agree (λ (row : List ℕ). counts_to allowed count (v ∷ row)) (counts_to allowed (count + v)) rows (λ row m. counts_value row)

    some_value : (test other : List ℕ → Bool) → ((row : List ℕ) → test (v ∷ row) ≡ other row) → (rows : List (List ℕ))
        → some_counts allowed count test (map (λ (row : List ℕ). v ∷ row) rows) ≡ some_counts allowed (count + v) other rows
    some_value test other h rows =
        any_map (λ (row : List ℕ). counts_to allowed count row && test row) (λ (row : List ℕ). v ∷ row) rows
        ∙ any_agree (λ (row : List ℕ). counts_to allowed count (v ∷ row) && test (v ∷ row)) (λ (row : List ℕ). counts_to allowed (count + v) row && other row) rows
        (λ row m. ap (λ (t : Bool). t && test (v ∷ row)) (counts_value row) ∙ ap (λ (t : Bool). counts_to allowed (count + v) row && t) (h row))

    -- the number that a row reaches
    pub reach_value : (x : ℕ) (rows : List (List ℕ))
        → some_counts allowed count (λ row. eqb (count + sum row) x) (map (λ (row : List ℕ). v ∷ row) rows) ≡ some_counts allowed (count + v) (λ row. eqb (count + v + sum row) x) rows
    reach_value x =
        some_value (λ row. eqb (count + sum row) x) (λ row. eqb (count + v + sum row) x)
        (λ row. let e : count + (v + sum row) ≡ count + v + sum row = omega arith in ap (λ (n : ℕ). eqb n x) e)

  -- a test that does not ask about the row, or another
  some_either : (t : Bool) (other : List ℕ → Bool) (rows : List (List ℕ))
      → some_counts allowed count (λ row. t || other row) rows ≡ ((any (counts_to allowed count) rows && t) || some_counts allowed count other rows)
  some_either t other [] = refl
  some_either t other (row ∷ rows) = go t (counts_to allowed count row) (other row) (any (counts_to allowed count) rows) (some_counts allowed count other rows) (some_either t other rows)
    where
      go : (t c o a s : Bool) {r : Bool} → r ≡ ((a && t) || s) → ((c && (t || o)) || r) ≡ (((c || a) && t) || ((c && o) || s))
      go true true o a s e = refl
      go true false o a s e = e
      go false true true a s e = refl
      go false true false true s e = e
      go false true false false s e = e
      go false false o true s e = e
      go false false o false s e = e

-- what rows give a group, with a value before each for another group
pub gives_value : (allowed : List ℕ) (count : ℕ) (test : ℕ → ℕ → Bool) (g : ℕ) (gs : List ℕ) (x v : ℕ) (rows : List (List ℕ))
    → some_counts allowed count (gives test (g ∷ gs) x) (map (λ (row : List ℕ). v ∷ row) rows)
    ≡ (some_counts allowed (count + v) (gives test gs x) rows || (any (counts_to allowed (count + v)) rows && (eqb g x && test g v)))
gives_value allowed count test g gs x v rows =
    some_value allowed count v (gives test (g ∷ gs) x) (λ row. (eqb g x && test g v) || gives test gs x row) (λ row. refl) rows
    ∙ some_either allowed (count + v) (eqb g x && test g v) (gives test gs x) rows
    ∙ or_turned (any (counts_to allowed (count + v)) rows && (eqb g x && test g v)) (some_counts allowed (count + v) (gives test gs x) rows)
  where
    or_turned : (a b : Bool) → (a || b) ≡ (b || a)
    or_turned true true = refl
    or_turned true false = refl
    or_turned false true = refl
    or_turned false false = refl
