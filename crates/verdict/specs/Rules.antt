-- The rules of a pass (SPECIFICATION 9.1): the three, weakest first; and on a board that shows its mine total a fourth, asked where these find nothing, which finds each
-- closed cell, on or off the frontier, that is the same in every layout that fits and holds exactly the board's mines. Its grade is 5. Assumes nothing.
use Rattle.std.specs.Prelude.{Bool, cond, List, ℕ}
use Rattle.fitting.specs.Layouts.{any_layout, of_total}
use Rattle.fitting.specs.Boards.{mine_total}
use Rattle.fitting.specs.Passes.{GradedCells, or_else}
use Rattle.fitting.specs.ForcedCells.{forced_cells}
use Rattle.enumeration.specs.ThreeRules.{three_rules}

abbrev pub four_rules : (ℕ → List ℕ) → List ℕ → List ℕ → GradedCells
four_rules near b = or_else (three_rules near) (forced_cells near (of_total (mine_total b)) 5)

-- the rules where the total is shown, or not
abbrev pub rules_of : Bool → (ℕ → List ℕ) → List ℕ → List ℕ → GradedCells
rules_of total near b = cond total (four_rules near b) (three_rules near)

-- and the layouts that they go by
abbrev pub layouts_of : Bool → List ℕ → List Bool → Bool
layouts_of total b = cond total (of_total (mine_total b)) any_layout
