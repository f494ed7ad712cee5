-- The round in which each cell is opened (SPECIFICATION 9.6): 0 for the start and what its zeros open, else the number of the pass, from 1; 65535 for a cell
-- that is still closed. It is read off the positions that the passes come to, of which nothing else is asked. Assumes nothing.
use Rattle.std.specs.Prelude.{Bool, cond, ◌||◌, List, [], ◌∷◌, map, ℕ, zero, suc, leb, length, replicate}
use Rattle.lists.specs.Lists.{range, any, first_place}
use Rattle.grid.specs.Cells.{shows}
use Rattle.fitting.specs.Passes.{GradedCells, nothing, open_cells, pass, all_open}

-- the positions of at most k passes: the first, and what each pass that finds a cell makes of the one before
abbrev pub positions : (ℕ → List ℕ) → List ℕ → (List ℕ → GradedCells) → ℕ → List ℕ → List (List ℕ)
positions near b rule zero p = p ∷ []
positions near b rule (suc k) p = cond (all_open b p || nothing (rule p)) (p ∷ []) (p ∷ positions near b rule k (pass near b p (rule p)))

-- a position has the cell open
abbrev pub open_at : ℕ → List ℕ → Bool
open_at c p = leb (shows p c) 8

-- the number of the first of some positions that has the cell open, counted from 0; 65535 where none has
abbrev pub round_of : List (List ℕ) → ℕ → ℕ
round_of ps c = cond (any (open_at c) ps) (first_place (open_at c) ps) 65535

-- of each of n cells
unfoldable pub rounds_of : List (List ℕ) → ℕ → List ℕ
rounds_of ps n = map (round_of ps) (range 0 n)

-- the rounds of a board's cells, judged from the start s
unfoldable pub judge_rounds : (ℕ → List ℕ) → List ℕ → (List ℕ → GradedCells) → ℕ → List ℕ
judge_rounds near b rule s = rounds_of (positions near b rule (length b) (open_cells near b (replicate (length b) 10) (s ∷ []))) (length b)
