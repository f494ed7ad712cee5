-- What a row of the solution table is, and the order of the rows (SPECIFICATION 11.2 to 11.4): a solution gives each group a mine count from 0 to its size, and rows
-- are compared with the groups in the order of their weights, the first that differs deciding. Says without a search what `solutions` lists.
-- Assumes nothing.
use Rattle.std.specs.Prelude.{◌≡◌, Bool, true, false, ◌&&◌, ◌||◌, List, [], ◌∷◌, map, ℕ, ◌≤◌, ◌<◌, ltb, eqb, length, get_or}
use Rattle.lists.specs.Lists.{all}
use Rattle.blocks.specs.Blocks.{Block}
use Rattle.groups.specs.Groups.{firsts, sizes}
use Rattle.search.specs.Solutions.{solves}

-- a solution of a block
pub record SolutionRow (b : Block) (row : List ℕ) : Type 0 where
  -- a number for each group
  pub whole : length row ≡ length (firsts b)
  -- from 0 to the group's size
  pub small : (g : ℕ) → g < length (firsts b) → get_or row g 0 ≤ get_or (sizes b) g 0
  -- with which each equation has its remainder
  pub solved : solves b row ≡ true

-- a row's values, read in an order of the groups
abbrev pub read_at : List ℕ → List ℕ → List ℕ
read_at order row = map (λ (g : ℕ). get_or row g 0) order

-- values come before others: where they first differ they have the smaller value
abbrev pub precedes : List ℕ → List ℕ → Bool
precedes [] other = false
precedes (v ∷ row) [] = false
precedes (v ∷ row) (w ∷ other) = ltb v w || (eqb v w && precedes row other)

-- lists of values in order: each comes before all that follow
abbrev pub is_in_order : List (List ℕ) → Bool
is_in_order [] = true
is_in_order (row ∷ rows) = all (precedes row) rows && is_in_order rows
