-- The passes on a board of rows and columns that shows its mine total or not, underway, as the code makes them: it marks and opens the cells of the struct that the rules
-- gave, in the struct's order, and that leads on as the definition's pass does; what was opened is given the pass's number. Rests on Underway and FoundCells.
-- Assumes nothing.
use mathlib.Core.Path.{◌≡◌, ◌∙◌}
use mathlib.Core.Logic.{◌≢◌}
use mathlib.Core.Bool.{Bool, false}
use mathlib.Core.List.{List, [], ◌∷◌, ◌++◌}
use Prim.Native.Nat.{ℕ, ◌+◌, ◌*◌, ◌<◌, max}
use native.Mathlib.Omega.{arith}
use lib.ListN.{length}
use Rattle.grid.specs.Window.{neighbours, Board}
use Rattle.grid.proofs.Places.{few_cells}
use Rattle.grid.proofs.Neighbours.{neighbours_few}
use Rattle.fitting.specs.Boards.{Accepted}
use Rattle.fitting.specs.Passes.{open_cells, all_open, ending}
use Rattle.fitting.proofs.Own.{fit_length}
use Rattle.marks.specs.CellLists.{list_in}
use Rattle.marks.specs.Written.{written}
use Rattle.marks.proofs.WrittenCells.{written_length}
use Rattle.rounds.specs.GivenRounds.{round_given}
use Rattle.rounds.proofs.GivenRounds.{rounds_on_board}
use Rattle.verdict.specs.Rules.{rules_of, layouts_of}
use Rattle.verdict.specs.Findings.{Finds}
use Rattle.verdict.proofs.KindsOfBoard.{own_passes, rules_sound}
use Rattle.verdict.specs.declared.finding.Finding.{Finding}
use Rattle.verdict.proofs.SamePass.{marks_written}
use Rattle.verdict.proofs.FoundCells.{finds_nothing, finds_cell, finds_pass}
use Rattle.verdict.proofs.Underway.{Underway, Ends, ends_stuck, underway_next}

-- a position keeps its cells when mines are marked
pub marked_board : {rows columns : ℕ} {p q : List ℕ} (ms : List ℕ) → Board p rows columns → q ≡ written 11 ms p → Board q rows columns
marked_board {p = p} ms board e = record { sized = board.sized; whole = rw e (written_length 11 ms p ∙ board.whole) }

-- k passes lead from p₀ to p
abbrev pub OnBoard : Bool → Bool → ℕ → ℕ → List ℕ → List ℕ → ℕ → List ℕ → ℕ → ℕ → List ℕ → Type 0
OnBoard total edgeless rows columns b = Underway (neighbours edgeless rows columns) b (rules_of total (neighbours edgeless rows columns) b) (length b)

module _ (total edgeless : Bool) {rows columns : ℕ} {b : List ℕ} (board : Board b rows columns) {p₀ : List ℕ} {k : ℕ} {p : List ℕ} {grade rounds : ℕ}
    {opened_in : List ℕ} (u : OnBoard total edgeless rows columns b p₀ k p grade rounds opened_in) where
  -- the position has the board's cells
  pub same_cells : length p ≡ length b
  same_cells = fit_length (neighbours edgeless rows columns) b p u.own_fits

  pub position_board : Board p rows columns
  position_board = record { sized = board.sized; whole = same_cells ∙ board.whole }

  -- and so has the slice of their rounds
  pub rounds_long : length opened_in ≡ rows * columns
  rounds_long = rounds_on_board board (u.earlier ++ (p ∷ [])) u.rounds_so_far

  -- there are at most 1024 cells, and no more rounds than passes
  pub few_rounds : k < length b → rounds < 1024
  few_rounds before = omega (arith, u.counted, board.whole, few_cells board.sized)

  -- before the last pass, with a safe cell that isn't open
  module _ (before : k < length b) (shut : all_open b p ≡ false) (r : Finding) (found : Finds (rows * columns) (rules_of total (neighbours edgeless rows columns) b p) r) where
    -- the rules found nothing
    pub found_nothing : r.lists.safe.count + r.lists.mines.count ≡ 0
        → Ends (neighbours edgeless rows columns) b (rules_of total (neighbours edgeless rows columns) b) (length b) p₀ (ending false p grade rounds) opened_in
    found_nothing none = ends_stuck (neighbours edgeless rows columns) b (rules_of total (neighbours edgeless rows columns) b) u before shut (finds_nothing found none)

    -- the mines that they found are marked and the safe cells opened
    pub found_cells : Accepted (neighbours edgeless rows columns) b → r.lists.safe.count + r.lists.mines.count ≢ 0
        → (q : List ℕ) → q ≡ open_cells (neighbours edgeless rows columns) b (written 11 (list_in r.lists.mines) p) (list_in r.lists.safe)
        → (g : ℕ) → g ≡ max grade r.grade → (given : List ℕ) → given ≡ round_given (rounds + 1) q opened_in
        → OnBoard total edgeless rows columns b p₀ (k + 1) q g (rounds + 1) given
    found_cells ok some q opens g greatest given gives =
        let near = neighbours edgeless rows columns in
        underway_next near b (rules_of total near b) u before shut (layouts_of total b) ok (own_passes total b) (rules_sound edgeless rows columns b total) (finds_cell found some) (few_rounds before)
        q (opens ∙ rw (marks_written p (list_in r.lists.mines)) (finds_pass found near b ok (λ c _. neighbours_few edgeless rows columns c) p same_cells))
        g (greatest ∙ rw found.same_grade) given gives
