-- Cited by no public contract. What a walk over a block's groups tells. Rows are the values that solutions give the groups still unset; `count` mines are set
-- already, and a row counts where its mines bring them to a number that is allowed. Told are whether some row counts, and in three arrays of bytes which
-- numbers such rows reach, which groups have a mine in one, and which have a free cell in one; and the same of the solutions of a block. Assumes nothing.
use Rattle.std.specs.Prelude.{◌≡◌, Bool, false, cond, ◌&&◌, ◌||◌, List, [], ◌∷◌, ℕ, ◌+◌, ◌<◌, ltb, eqb, length, get_or}
use Rattle.lists.specs.Lists.{bit, any}
use Rattle.blocks.specs.Blocks.{Block}
use Rattle.groups.specs.Groups.{firsts, sizes}
use Rattle.search.specs.Solutions.{sum, solutions}
use Rattle.counting.specs.declared.walking.Counted.{Counted}

-- a row brings the mines to an allowed number
abbrev pub counts_to : List ℕ → ℕ → List ℕ → Bool
counts_to allowed count row = eqb (get_or allowed (count + sum row) 0) 1

-- some row that does passes a test
abbrev pub some_counts : List ℕ → ℕ → (List ℕ → Bool) → List (List ℕ) → Bool
some_counts allowed count test rows = any (λ (row : List ℕ). counts_to allowed count row && test row) rows

-- the row of values for the groups of a list gives group x one that passes a test
abbrev pub gives : (ℕ → ℕ → Bool) → List ℕ → ℕ → List ℕ → Bool
gives test [] x row = false
gives test (g ∷ gs) x [] = false
gives test (g ∷ gs) x (v ∷ row) = (eqb g x && test g v) || gives test gs x row

-- the tests: a mine in the group, a free cell in it
abbrev pub holds_mine : ℕ → ℕ → Bool
holds_mine g v = ltb 0 v

abbrev pub leaves_free : List ℕ → ℕ → ℕ → Bool
leaves_free sizes g v = ltb v (get_or sizes g 0)

-- the places that pass a test are marked, and those that were before
pub record Marked (test : ℕ → Bool) (before after : List ℕ) : Type 0 where
  pub whole : length after ≡ length before
  pub at : (x : ℕ) → get_or after x 0 ≡ cond (test x) 1 (get_or before x 0)

-- what a walk over the groups of a list tells of its rows
pub record Walked (allowed sizes : List ℕ) (count : ℕ) (gs : List ℕ) (rows : List (List ℕ)) (found : Bool)
    (reached mined unfilled reached_after mined_after unfilled_after : List ℕ) : Type 0 where
  pub finds : found ≡ any (counts_to allowed count) rows
  pub reaches : Marked (λ x. some_counts allowed count (λ row. eqb (count + sum row) x) rows) reached reached_after
  pub mines : Marked (λ x. some_counts allowed count (gives holds_mine gs x) rows) mined mined_after
  pub frees : Marked (λ x. some_counts allowed count (gives (leaves_free sizes) gs x) rows) unfilled unfilled_after

-- what the solutions of a block with an allowed mine count show
pub record CountedBy (b : Block) (allowed : List ℕ) (r : Counted) : Type 0 where
  pub reaches : (t : ℕ) → get_or r.reached t 0 ≡ bit (any (λ (row : List ℕ). eqb (get_or allowed (sum row) 0) 1 && eqb (sum row) t) (solutions b))
  pub mines : (g : ℕ) → g < length (firsts b) → get_or r.mined g 0 ≡ bit (any (λ (row : List ℕ). eqb (get_or allowed (sum row) 0) 1 && ltb 0 (get_or row g 0)) (solutions b))
  pub frees : (g : ℕ) → g < length (firsts b)
      → get_or r.unfilled g 0 ≡ bit (any (λ (row : List ℕ). eqb (get_or allowed (sum row) 0) 1 && ltb (get_or row g 0) (get_or (sizes b) g 0)) (solutions b))
