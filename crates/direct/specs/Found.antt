-- What a rule makes of blocks: a contradiction, or its two lists of cells and the blocks that it leaves. Assumes nothing.
use Rattle.std.specs.Prelude.{Bool, true, false, not, List, [], ℕ, ◌-◌}
use Rattle.lists.specs.Lists.{keep, count, has}
use Rattle.fitting.specs.Passes.{GradedCells}
use Rattle.blocks.specs.Blocks.{BlockEquation, Block}
use Rattle.frontier.specs.Frontier.{frontier}

pub record Found : Type 0 where
  -- refusal 6
  pub contradiction : Bool
  pub safe : List ℕ
  pub mines : List ℕ
  pub left : List Block

-- nothing but the contradiction
abbrev pub contradicted : Found
contradicted = record { contradiction = true; safe = []; mines = []; left = [] }

abbrev pub found : List ℕ → List ℕ → List Block → Found
found safe mines left = record { contradiction = false; safe = safe; mines = mines; left = left }

-- an equation when these cells are known to be mines: they go, and the remainder falls by one for each
abbrev pub less_mines : List ℕ → BlockEquation → BlockEquation
less_mines ms e = record { cells = keep (λ c. not (has ms c)) e.cells; rest = e.rest - count (has ms) e.cells }

-- an equation when these cells are known to be safe: they go
abbrev pub less_safe : List ℕ → BlockEquation → BlockEquation
less_safe ss e = record { cells = keep (λ c. not (has ss c)) e.cells; rest = e.rest }

-- a rule on blocks as a rule at a position, with its grade
abbrev pub rule_of : (ℕ → List ℕ) → (List Block → Found) → ℕ → List ℕ → GradedCells
rule_of near rule grade p = record { safe = (rule (frontier near p)).safe; mines = (rule (frontier near p)).mines; grade = grade }
