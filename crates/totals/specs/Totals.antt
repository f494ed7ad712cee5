-- Cited by no public contract. What a mine total leaves to each closed cell: the mine counts that a block may have, what the counts of several blocks
-- may add up to, and whether some solution of a block, with what the other blocks and the inside cells can hold, makes up the total. `near` gives the
-- neighbours of a cell, p is the position. Assumes nothing.
use Rattle.std.specs.Prelude.{Bool, not, ◌&&◌, List, [], ◌∷◌, ◌++◌, map, ℕ, suc, ◌-◌, leb, ltb, eqb, get_or, take, drop}
use Rattle.lists.specs.Lists.{range, any}
use Rattle.grid.specs.Cells.{shows}
use Rattle.fitting.specs.Equations.{is_closed}
use Rattle.blocks.specs.Blocks.{Block}
use Rattle.groups.specs.Groups.{sizes}
use Rattle.frontier.specs.Frontier.{frontier, inside_cells, known_mines}
use Rattle.search.specs.Solutions.{sum, solutions}

-- ---- sets of numbers, each as its test

-- how many mines a solution of the block may put in it
unfoldable pub possible_count : Block → ℕ → Bool
possible_count b t = any (λ (row : List ℕ). eqb (sum row) t) (solutions b)

-- k cells that nothing ties hold any number of mines up to k
abbrev pub up_to : ℕ → ℕ → Bool
up_to k n = leb n k

-- a number from each set, and they add up to n
abbrev pub sums_to : List (ℕ → Bool) → ℕ → Bool
sums_to [] n = eqb n 0
sums_to (s ∷ ss) n = any (λ (t : ℕ). s t && sums_to ss (n - t)) (range 0 (suc n))

-- ---- a position with a mine total

-- a closed cell beside no open one: `inside_cells` counts them
abbrev pub is_inside : (ℕ → List ℕ) → List ℕ → ℕ → Bool
is_inside near p c = is_closed p c && not (any (λ d. leb (shows p d) 8) (near c))

-- the mines that the known ones leave
abbrev pub mines_left : ℕ → List ℕ → ℕ
mines_left total p = total - known_mines p

-- the blocks but the i-th
abbrev pub others_than : ℕ → List Block → List Block
others_than i bs = take i bs ++ drop (suc i) bs

-- with t mines in the i-th block, the other blocks and the inside cells can hold the rest
unfoldable pub allowed_count : (ℕ → List ℕ) → List ℕ → ℕ → ℕ → ℕ → Bool
allowed_count near p total i t =
    leb t (mines_left total p)
    && sums_to (up_to (inside_cells near p) ∷ map possible_count (others_than i (frontier near p))) (mines_left total p - t)

-- some solution of b, the i-th block, with an allowed count has a mine in the group g
unfoldable pub some_mine : (ℕ → List ℕ) → List ℕ → ℕ → ℕ → Block → ℕ → Bool
some_mine near p total i b g = any (λ (row : List ℕ). allowed_count near p total i (sum row) && ltb 0 (get_or row g 0)) (solutions b)

-- or leaves a cell of it free
unfoldable pub some_free : (ℕ → List ℕ) → List ℕ → ℕ → ℕ → Block → ℕ → Bool
some_free near p total i b g = any (λ (row : List ℕ). allowed_count near p total i (sum row) && ltb (get_or row g 0) (get_or (sizes b) g 0)) (solutions b)

-- an inside cell may be a mine where the other ones and the blocks can hold one mine less
unfoldable pub inside_mine : (ℕ → List ℕ) → List ℕ → ℕ → Bool
inside_mine near p total =
    leb 1 (inside_cells near p)
    && (leb 1 (mines_left total p) && sums_to (up_to (inside_cells near p - 1) ∷ map possible_count (frontier near p)) (mines_left total p - 1))

-- and free where they can hold all of them
unfoldable pub inside_free : (ℕ → List ℕ) → List ℕ → ℕ → Bool
inside_free near p total =
    leb 1 (inside_cells near p)
    && sums_to (up_to (inside_cells near p - 1) ∷ map possible_count (frontier near p)) (mines_left total p)
