-- Cited by no public contract. What the three steps of the fourth rule are told and tell: what the solutions of a block with an allowed count show, kept by cell, and
-- the possible counts of each block, in an array. Assumes nothing.
use Rattle.std.specs.Prelude.{◌≡◌, Bool, true, false, cond, ◌&&◌, List, [], ℕ, ◌<◌, ltb, eqb, length, get_or, replicate}
use Rattle.lists.specs.Lists.{bit, any, has}
use Rattle.blocks.specs.Blocks.{Block}
use Rattle.blocks.specs.BlockSets.{all_cells}
use Rattle.groups.specs.Groups.{group_of_cell, sizes}
use Rattle.search.specs.Solutions.{sum, solutions}
use Rattle.counting.specs.declared.states.Met.{Met}
use Rattle.totals.specs.Totals.{possible_count, some_mine, some_free}
use Rattle.totals.specs.Joining.{counts_at}

-- the table of states, with tags below a number
pub record TableBelow (first : ℕ) (met : Met) : Type 0 where
  pub whole : (length met.tags ≡ 8192) × (length met.keys ≡ 8192) × (length met.results ≡ 8192)
  pub below : (i : ℕ) → get_or met.tags i 0 < first

-- ---- a block

-- the block at a place
abbrev pub block_there : List Block → ℕ → Block
block_there bs j = get_or bs j (record { cells = []; equations = [] })

-- some solution of a block with an allowed count has that count
abbrev pub count_allowed : List ℕ → Block → ℕ → Bool
count_allowed allowed b t = any (λ (row : List ℕ). eqb (get_or allowed (sum row) 0) 1 && eqb (sum row) t) (solutions b)

-- a mine in a group
abbrev pub mine_allowed : List ℕ → Block → ℕ → Bool
mine_allowed allowed b g = any (λ (row : List ℕ). eqb (get_or allowed (sum row) 0) 1 && ltb 0 (get_or row g 0)) (solutions b)

-- a free cell in a group
abbrev pub free_allowed : List ℕ → Block → ℕ → Bool
free_allowed allowed b g = any (λ (row : List ℕ). eqb (get_or allowed (sum row) 0) 1 && ltb (get_or row g 0) (get_or (sizes b) g 0)) (solutions b)

-- every count is allowed
abbrev pub any_count : List ℕ
any_count = replicate 1025 1

-- the cells of a block are told what is so of their groups, and all others are as they were
pub record ToldBlock (b : Block) (test : ℕ → Bool) (before after : List ℕ) : Type 0 where
  pub whole : length after ≡ length before
  pub at_cell : (c : ℕ) → get_or after c 0 ≡ cond (has b.cells c) (bit (test (group_of_cell b c))) (get_or before c 0)

-- ---- the blocks

-- the possible counts of the first k blocks stand in an array
pub record CountsHeld (bs : List Block) (ends counts : List ℕ) (k : ℕ) : Type 0 where
  pub whole : length counts ≡ 2048
  pub at_block : (j : ℕ) → j < k → (t : ℕ) → counts_at counts ends j t ≡ possible_count (block_there bs j) t

-- the cells of the first k blocks are told what is so of their groups; those of no block are as they were
pub record CellsTold (bs : List Block) (k : ℕ) (test : ℕ → ℕ → Bool) (before after : List ℕ) : Type 0 where
  pub whole : length after ≡ length before
  pub of_block : (j : ℕ) → j < k → (c : ℕ) → has (block_there bs j).cells c ≡ true → get_or after c 0 ≡ bit (test j (group_of_cell (block_there bs j) c))
  pub of_none : (c : ℕ) → has (all_cells bs) c ≡ false → get_or after c 0 ≡ get_or before c 0

-- what is told of block j's groups: what solutions show, with any count
abbrev pub mine_shown : List Block → ℕ → ℕ → Bool
mine_shown bs j g = mine_allowed any_count (block_there bs j) g

abbrev pub free_shown : List Block → ℕ → ℕ → Bool
free_shown bs j g = free_allowed any_count (block_there bs j) g

-- and before block i, where counts are allowed that the others and the inside cells leave
abbrev pub mine_stage : (ℕ → List ℕ) → List ℕ → ℕ → List Block → ℕ → ℕ → ℕ → Bool
mine_stage near p total bs i j g = cond (ltb j i) (some_mine near p total j (block_there bs j) g) (mine_shown bs j g)

abbrev pub free_stage : (ℕ → List ℕ) → List ℕ → ℕ → List Block → ℕ → ℕ → ℕ → Bool
free_stage near p total bs i j g = cond (ltb j i) (some_free near p total j (block_there bs j) g) (free_shown bs j g)
