-- What the rounds of the cells tell a caller, for every board that the tests accept: a cell has a round exactly where the lent picture shows it open, no round is above
-- the verdict's rounds, round 0 is the start's flood, and what the last pass opened has the number of rounds. Rests on `round_tells` of the crate rounds.
-- Assumes nothing.
use mathlib.Core.Path.{◌≡◌, ap, ◌∙◌}
use mathlib.Core.Bool.{Bool, false}
use mathlib.Core.List.{List, [], ◌∷◌}
use Prim.Native.Nat.{ℕ, ◌<◌}
use native.Mathlib.Omega.{arith}
use lib.ListN.{length, get_or}
use Rattle.grid.specs.Window.{neighbours}
use Rattle.grid.proofs.Places.{few_cells}
use Rattle.refusals.specs.Tests.{board_tested, start_cell}
use Rattle.refusals.proofs.Accepted.{accepted_board}
use Rattle.fitting.specs.Passes.{judge}
use Rattle.enumeration.specs.ThreeRules.{three_rules}
use Rattle.rounds.specs.Rounds.{judge_rounds}
use Rattle.rounds.proofs.Rounds.{RoundTells, round_tells, tells_picture}
use Rattle.rounds.proofs.GivenRounds.{rounds_at}
use Rattle.verdict.specs.Rules.{rules_of, layouts_of}
use Rattle.verdict.specs.Verdict.{VerdictAnswer, verdict_rounds, VerdictSeen, verdict_seen, is_solvable}
use Rattle.verdict.proofs.KindsOfBoard.{own_passes, rules_sound}
use Rattle.refusals.proofs.Admitted.{tested_accepted}
use Rattle.verdict.proofs.DemandThree.{tests_accept}
use Rattle.refusals.specs.Refusals.{Accepted}

module _ (edgeless : Bool) (rows columns row column : ℕ) (b shown opened_in : List ℕ)
    (tests : board_tested edgeless rows columns row column b (length shown ∷ length opened_in ∷ []) ≡ Accepted) where
  abbrev near : ℕ → List ℕ
  near = neighbours edgeless rows columns

  abbrev start : ℕ
  start = start_cell columns row column

  -- the round of a cell in the definition's slice, with the mine total shown or not
  pub judged_round : (total : Bool) (c : ℕ) → c < length b
      → RoundTells near b (rules_of total near b) start (judge near b (rules_of total near b) start).position (judge near b (rules_of total near b) start).rounds c
      (get_or (judge_rounds near b (rules_of total near b) start) c 65535)
  unfolding judge_rounds
  judged_round total c on =
      let accepted = accepted_board edgeless rows columns row column b _ tests in
      rw (rounds_at _ (length b) c 65535 on)
      (round_tells near b (rules_of total near b) start (tested_accepted edgeless rows columns row column b _ tests)
      accepted.start_within accepted.start_safe_lem (layouts_of total b) (own_passes total b) (rules_sound edgeless rows columns b total)
      (omega (arith, accepted.board.whole, few_cells accepted.board.sized)) c)

  -- so of an answer that is the definition's
  pub answer_rounds : (r : VerdictAnswer) (after rounds : List ℕ) → verdict_seen r after rounds ≡ is_solvable edgeless rows columns row column b shown opened_in
      → (c : ℕ) → c < length b → RoundTells near b (three_rules near) start after (verdict_rounds r) c (get_or rounds c 65535)
  answer_rounds r after rounds e c on =
      let told = e ∙ tests_accept edgeless rows columns row column b shown opened_in tests in
      rw (ap (λ (w : VerdictSeen). w.answer) told, ap (λ (w : VerdictSeen). w.shown) told, ap (λ (w : VerdictSeen). w.opened_in) told)
      (tells_picture _ (judged_round false c on))
