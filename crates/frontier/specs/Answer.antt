-- The answer of refresh_matrixs: refusals 1 to 3 of SPECIFICATION 3.1; else the blocks of the position, inside_cell and is_minenum. Assumes nothing.
use Rattle.std.specs.Prelude.{Bool, List, ℕ, Result, Ok, Err}
use Rattle.grid.specs.Window.{neighbours}
use Rattle.refusals.specs.declared.Refusal.{Refusal}
use Rattle.refusals.specs.Refusals.{Tested}
use Rattle.refusals.specs.Tests.{position_tested}
use Rattle.blocks.specs.BlockSets.{block_set}
use Rattle.frontier.specs.declared.FrontierAnswer.{FrontierAnswer}
use Rattle.frontier.specs.Frontier.{frontier, inside_cells, known_mines}

-- what the call answers once its tests have
abbrev pub frontier_after_tests : Tested → Bool → ℕ → ℕ → List ℕ → Result FrontierAnswer Refusal
frontier_after_tests (Ok _) edgeless rows columns p = Ok (record {
  blocks = block_set (frontier (neighbours edgeless rows columns) p);
  inside_cell = inside_cells (neighbours edgeless rows columns) p;
  is_minenum = known_mines p;
})
frontier_after_tests (Err r) edgeless rows columns p = Err r

unfoldable pub refresh_matrixs : Bool → ℕ → ℕ → List ℕ → Result FrontierAnswer Refusal
refresh_matrixs edgeless rows columns p = frontier_after_tests (position_tested rows columns p) edgeless rows columns p
