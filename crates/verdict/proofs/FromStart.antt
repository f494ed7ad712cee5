-- The verdict from the start's cell, step by step as the code takes them: the start, which is safe, is opened in the round 0, which leads to the position where
-- the passes begin; and the end of the passes, graded, is what the caller sees. Rests on Underway and on `given_next` of the crate rounds. Assumes nothing.
use mathlib.Core.Path.{◌≡◌, refl, sym, ◌∙◌}
use mathlib.Core.Logic.{◌≢◌}
use mathlib.Core.Bool.{Bool, true, ◌&&◌}
use mathlib.Core.List.{List, [], ◌∷◌}
use Prim.Native.Nat.{ℕ, ◌*◌, ◌<◌}
use native.Mathlib.Omega.{arith}
use lib.Dec.{ltb}
use lib.ListN.{length, replicate}
use borrow.Author.Tests.{lt-ltb}
use Rattle.grid.specs.Cells.{cell_of}
use Rattle.grid.proofs.Places.{few_cells}
use Rattle.grid.specs.Window.{neighbours, Board}
use Rattle.fitting.specs.Layouts.{Fits}
use Rattle.fitting.specs.Boards.{Accepted, own}
use Rattle.fitting.specs.Demand.{picture, opened}
use Rattle.fitting.specs.Passes.{GradedCells, open_cells, Ending, judge}
use Rattle.fitting.proofs.Own.{fit_length}
use Rattle.fitting.proofs.Steps.{beginning}
use Rattle.fitting.proofs.Passes.{begin_own}
use Rattle.rounds.specs.Rounds.{rounds_of, judge_rounds}
use Rattle.rounds.specs.GivenRounds.{round_given}
use Rattle.rounds.proofs.GivenRounds.{given_next}
use Rattle.verdict.specs.declared.passes.Ending.{Ending as PassesEnd}
use Rattle.verdict.specs.Findings.{end_of}
use Rattle.verdict.specs.Verdict.{verdict_of, board_grade, verdict_seen, judged_by}
use Rattle.verdict.proofs.Underway.{Ends}

module _ {rows columns : ℕ} {b : List ℕ} (board : Board b rows columns) (s : ℕ) (l : s < length b) where
  -- the start's cell fits 16 bits
  pub start_small : s < 1024
  start_small = omega (arith, board.whole, few_cells board.sized)

  -- and is on the board
  pub start_below : (ltb s (rows * columns) && true) ≡ true
  start_below = rw (lt-ltb s (rows * columns) (rw board.whole at l))

-- no cell has a round, and what the start opens is given the round 0
pub first_given : (n : ℕ) (first : List ℕ) {none given : List ℕ} → none ≡ rounds_of [] n → given ≡ round_given 0 first none → given ≡ rounds_of (first ∷ []) n
first_given n first none_yet gives = gives ∙ rw none_yet (given_next [] first n 0 (omega arith) refl)

module _ (edgeless : Bool) {rows columns : ℕ} {b : List ℕ} (board : Board b rows columns) (s : ℕ) (l : s < length b) where
  -- the start is opened, and that is where the passes begin
  module _ (safe : cell_of b s ≢ 255) (ok : Accepted (neighbours edgeless rows columns) b) {closed : List ℕ} (is : closed ≡ replicate (length b) 10)
      {first : List ℕ} (opens : first ≡ open_cells (neighbours edgeless rows columns) b closed (s ∷ [])) where
    pub first_begins : first ≡ beginning (neighbours edgeless rows columns) b s
    first_begins = opens ∙ rw is

    pub first_own : Fits (neighbours edgeless rows columns) first (own b)
    first_own = rw first_begins (begin_own (neighbours edgeless rows columns) b s ok l safe)

    pub first_board : Board first rows columns
    first_board = record { sized = board.sized; whole = fit_length (neighbours edgeless rows columns) b first first_own ∙ board.whole }

    -- how the passes from there end is how the verdict does
    pub first_ends : (rule : List ℕ → GradedCells) {e : Ending} {opened_in : List ℕ}
        → Ends (neighbours edgeless rows columns) b rule (length b) first e opened_in
        → (end_of e ≡ end_of (judge (neighbours edgeless rows columns) b rule s))
        × ((e.position ≡ (judge (neighbours edgeless rows columns) b rule s).position)
        × (opened_in ≡ judge_rounds (neighbours edgeless rows columns) b rule s))
    unfolding judge judge_rounds
    first_ends rule (ends, told) = rw (sym first_begins, ends, told) (refl, (refl, refl))

  -- and what is seen is the end of the passes
  pub passes_told : (rule : List ℕ → GradedCells) {e : PassesEnd} {last : List ℕ}
      → e ≡ end_of (judge (neighbours edgeless rows columns) b rule s)
      → last ≡ (judge (neighbours edgeless rows columns) b rule s).position
      → {opened_in : List ℕ} → opened_in ≡ judge_rounds (neighbours edgeless rows columns) b rule s
      → {n grade : ℕ} {shown : List ℕ} → n ≡ opened last → shown ≡ picture last → grade ≡ board_grade e.yes e.grade
      → verdict_seen (verdict_of e.yes n grade e.rounds) shown opened_in ≡ judged_by (neighbours edgeless rows columns) b rule s
  passes_told rule ends at rounds count shows graded = rw (graded, count, shows, at, ends, rounds)
