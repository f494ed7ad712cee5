-- The verdict's passes over any rule (SPECIFICATION 9.1 to 9.3, after is_solvable): the start is opened, then passes mark the
-- mines and open the safe cells that the rule finds, until all safe cells are open or a pass finds nothing. Assumes nothing.
use Rattle.std.specs.Prelude.{Bool, true, false, cond, ◌&&◌, ◌||◌, List, [], ◌∷◌, ◌++◌, ℕ, zero, suc, ◌+◌, ◌*◌, max, leb, eqb, length, set, replicate}
use Rattle.lists.specs.Lists.{every, empty}
use Rattle.grid.specs.Cells.{cell_of, shows}

-- what a rule finds at a position: cells that are safe, cells that are mines, and the rule's grade (1 direct, 2 subtraction, 3 enumeration, 5 the mine total)
pub record GradedCells : Type 0 where
  pub safe : List ℕ
  pub mines : List ℕ
  pub grade : ℕ

abbrev pub nothing : GradedCells → Bool
nothing f = empty f.safe && empty f.mines

-- the second rule where the first finds nothing
unfoldable pub or_else : (List ℕ → GradedCells) → (List ℕ → GradedCells) → List ℕ → GradedCells
or_else rule other p = cond (nothing (rule p)) (other p) (rule p)

-- opens the cells of a list in turn: a closed one gets the board's number, and the neighbours of a 0 come next; k is how many to take from the list
abbrev pub flood : (ℕ → List ℕ) → List ℕ → ℕ → List ℕ → List ℕ → List ℕ
flood near b zero p cs = p
flood near b (suc k) p [] = p
flood near b (suc k) p (c ∷ cs) =
    cond (eqb (shows p c) 10)
    (flood near b k (set p c (cell_of b c)) (cond (eqb (cell_of b c) 0) (near c ++ cs) cs))
    (flood near b k p cs)

-- refresh_board: each cell is opened once, and then brings at most eight others, so the list is empty before the count is
unfoldable pub open_cells : (ℕ → List ℕ) → List ℕ → List ℕ → List ℕ → List ℕ
open_cells near b p cs = flood near b (length cs + 9 * length b) p cs

-- a known mine at each cell of a list
abbrev pub mark_mines : List ℕ → List ℕ → List ℕ
mark_mines p [] = p
mark_mines p (c ∷ cs) = mark_mines (set p c 11) cs

-- what a pass makes of a position
unfoldable pub pass : (ℕ → List ℕ) → List ℕ → List ℕ → GradedCells → List ℕ
pass near b p f = open_cells near b (mark_mines p f.mines) f.safe

-- every safe cell of the board is open
unfoldable pub all_open : List ℕ → List ℕ → Bool
all_open b p = every (length b) (λ c. eqb (cell_of b c) 255 || leb (shows p c) 8)

-- how the passes end: all safe cells open or not, the last position, the greatest grade that found a cell, and the passes that did
pub record Ending : Type 0 where
  pub yes : Bool
  pub position : List ℕ
  pub grade : ℕ
  pub rounds : ℕ

abbrev pub ending : Bool → List ℕ → ℕ → ℕ → Ending
ending answer p grade rounds = record { yes = answer; position = p; grade = grade; rounds = rounds }

-- at most k passes from a position, after so many rounds with that grade
abbrev pub passes : (ℕ → List ℕ) → List ℕ → (List ℕ → GradedCells) → ℕ → List ℕ → ℕ → ℕ → Ending
passes near b rule zero p grade rounds = ending (all_open b p) p grade rounds
passes near b rule (suc k) p grade rounds =
    cond (all_open b p) (ending true p grade rounds)
    (cond (nothing (rule p)) (ending false p grade rounds)
    (passes near b rule k (pass near b p (rule p)) (max grade (rule p).grade) (rounds + 1)))

-- the verdict from the start s: as many passes as there are cells are enough, since each lowers the number of closed ones
unfoldable pub judge : (ℕ → List ℕ) → List ℕ → (List ℕ → GradedCells) → ℕ → Ending
judge near b rule s = passes near b rule (length b) (open_cells near b (replicate (length b) 10) (s ∷ [])) 0 0
