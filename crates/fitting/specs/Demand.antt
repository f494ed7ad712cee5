-- Demand 3 of an answer: one claim about every list of asks. Assumes nothing.
use Rattle.std.specs.Prelude.{◌≡◌, ◌↔◌, Bool, true, cond, List, map, ℕ, ◌≤◌, leb}
use Rattle.lists.specs.Lists.{count}
use Rattle.grid.specs.Cells.{shows}
use Rattle.fitting.specs.Layouts.{any_layout}
use Rattle.fitting.specs.Boards.{AllOpen}
use Rattle.fitting.specs.Solver.{solved_among, DoneAmong}

-- the picture of a position: an open cell's number, else 10
abbrev pub picture : List ℕ → List ℕ
picture p = map (λ (v : ℕ). cond (leb v 8) v 10) p

-- how many cells of a position or a picture are open
abbrev pub opened : List ℕ → ℕ
opened p = count (λ (v : ℕ). leb v 8) p

-- Demand 3 of a verdict (yes or no, the opened count n, the picture) on the board b with the safe start s, and a solver that goes by the layouts that pass
-- the test `also`
pub record Demand3Among (near : ℕ → List ℕ) (also : List Bool → Bool) (b : List ℕ) (s : ℕ) (answer : Bool) (n : ℕ) (shown : List ℕ) : Type 0 where
  -- after any list of asks, each cell that the solver has open has the same number in the picture
  pub within : (cs : List ℕ) (c : ℕ) → shows (solved_among near also b s cs) c ≤ 8 → shows shown c ≡ shows (solved_among near also b s cs) c
  -- when the solver is done, its position is the picture, and the opened count is the number of cells open in it
  pub same : (cs : List ℕ) → DoneAmong near also b (solved_among near also b s cs)
      → (solved_among near also b s cs ≡ shown) × (n ≡ opened (solved_among near also b s cs))
  -- some list of asks comes to that, so that the line above is never empty
  pub ends : (cs : List ℕ) × DoneAmong near also b (solved_among near also b s cs)
  -- the verdict is yes exactly when the picture shows all the safe cells
  pub verdict : (answer ≡ true) ↔ AllOpen b shown

-- on a plain board, whose mine total the solver does not know
abbrev pub Demand3 : (ℕ → List ℕ) → List ℕ → ℕ → Bool → ℕ → List ℕ → Type 0
Demand3 near b s answer n shown = Demand3Among near any_layout b s answer n shown
