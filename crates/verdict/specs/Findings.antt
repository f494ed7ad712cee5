-- Cited by no public contract. What the functions of the passes are told and tell. A pass asks of the lists that a rule finds only which cells they have, and
-- of the rule its grade. Assumes nothing.
use Rattle.std.specs.Prelude.{◌≡◌, Bool, not, cond, ◌&&◌, List, ℕ, eqb, Option, Some, None}
use Rattle.lists.specs.Lists.{has}
use Rattle.fitting.specs.Layouts.{of_total}
use Rattle.fitting.specs.Boards.{mine_total}
use Rattle.fitting.specs.Passes.{GradedCells, Ending, or_else}
use Rattle.fitting.specs.ForcedCells.{forced_cells}
use Rattle.enumeration.specs.ThreeRules.{three_rules}
use Rattle.marks.specs.CellLists.{list_in, Below}
use Rattle.direct.specs.declared.answer.Lists.{Lists}
use Rattle.verdict.specs.declared.finding.Finding.{Finding}
use Rattle.verdict.specs.declared.passes.Ending.{Ending as PassesEnd}

-- the struct has the cells that a rule found on a board of n cells, in whatever order, and the rule's grade
pub record Finds (n : ℕ) (f : GradedCells) (r : Finding) : Type 0 where
  pub safe_below : Below n r.lists.safe
  pub mines_below : Below n r.lists.mines
  pub same_safe : (c : ℕ) → has (list_in r.lists.safe) c ≡ has f.safe c
  pub same_mines : (c : ℕ) → has (list_in r.lists.mines) c ≡ has f.mines c
  pub same_grade : r.grade ≡ f.grade

-- ---- from a rule's lists to the struct

-- a rule's lists with its grade
abbrev pub graded_finding : Lists → ℕ → Finding
graded_finding found grade = record { lists = found; grade = grade }

-- a rule found a cell
abbrev pub found_cell : Lists → Bool
found_cell found = not (eqb found.safe.count 0 && eqb found.mines.count 0)

-- the second rule's lists where it found a cell, else the third's
unfoldable pub later_finding : Lists → Lists → Finding
later_finding second third = cond (found_cell second) (graded_finding second 2) (graded_finding third 3)

-- ---- the end of the passes

-- the struct of an ending: all of it but the position
abbrev pub end_of : Ending → PassesEnd
end_of e = record { yes = e.yes; grade = e.grade; rounds = e.rounds }

-- ---- the rules of a pass

-- the mine total of a board, where it is shown
abbrev pub shown_total : Bool → List ℕ → Option ℕ
shown_total shown b = cond shown (Some (mine_total b)) None

-- what they find, given the total where it is shown
abbrev pub rules_at : Option ℕ → (ℕ → List ℕ) → List ℕ → GradedCells
rules_at (Some total) near = or_else (three_rules near) (forced_cells near (of_total total) 5)
rules_at None near = three_rules near
