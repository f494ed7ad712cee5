-- Marks that a loop sets while it looks at one element of a list after another, where each element marks some cells. The invariant: the marks now, with what
-- the elements still to come mark, are the marks at the start with what all elements mark. So at the end a cell is marked if it was at the start or one of
-- the elements marks it. Assumes nothing.
use mathlib.Core.Path.{◌≡◌, refl, sym, ap, ◌∙◌}
use mathlib.Core.Bool.{Bool, true, false, ◌||◌, or-false}
use mathlib.Core.List.{List, [], ◌∷◌}
use Prim.Native.Nat.{ℕ}
use Rattle.lists.specs.Lists.{any}
use Rattle.blocks.specs.Places.{marked}

-- `marks d x` says that the element x marks the cell d; `rest` are the elements still to come
pub record MarkedSoFar {A : Type 0} (marks : ℕ → A → Bool) (start : List ℕ) (all : List A) (here : List ℕ) (rest : List A) : Type 0 where
  pub at : (d : ℕ) → (marked here d || any (marks d) rest) ≡ (marked start d || any (marks d) all)

or_regroup : (a b c : Bool) → ((a || b) || c) ≡ (a || (b || c))
or_regroup true b c = refl
or_regroup false b c = refl

module _ {A : Type 0} (marks : ℕ → A → Bool) (start : List ℕ) (all : List A) where
  -- before the first turn
  pub marked_start : MarkedSoFar marks start all start all
  marked_start = record { at = λ d. refl }

  module _ (here : List ℕ) (rest : List A) (sofar : MarkedSoFar marks start all here rest) where
    module _ (x : A) (r : List A) (more : rest ≡ x ∷ r) where
      -- the next element marks its cells
      pub marked_next : (after : List ℕ) → ((d : ℕ) → marked after d ≡ (marked here d || marks d x)) → MarkedSoFar marks start all after r
      marked_next after is = record {
        at = λ d.
            ap (λ (t : Bool). t || any (marks d) r) (is d)
            ∙ or_regroup (marked here d) (marks d x) (any (marks d) r)
            ∙ ap (λ (l : List A). marked here d || any (marks d) l) (sym more)
            ∙ sofar.at d;
      }

      -- the next element marks nothing
      pub marked_pass : ((d : ℕ) → marks d x ≡ false) → MarkedSoFar marks start all here r
      marked_pass none = marked_next here (λ d. sym (ap (λ (t : Bool). marked here d || t) (none d) ∙ or-false (marked here d)))

    -- after the last turn
    pub marked_end : rest ≡ [] → (d : ℕ) → marked here d ≡ (marked start d || any (marks d) all)
    marked_end none d = sym (ap (λ (l : List A). marked here d || any (marks d) l) none ∙ or-false (marked here d)) ∙ sofar.at d
