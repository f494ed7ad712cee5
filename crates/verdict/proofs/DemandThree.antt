-- Demand 3 of what the verdict answers, whole: for every board that the tests accept, and every list of asks, since the definition of the
-- answer is the passes over the board's rules, which are sound and complete. Rests on `judge_demand_3_among` of the crate fitting and on KindsOfBoard. Assumes nothing.
use Rattle.std.specs.Prelude.{Err}
use mathlib.Core.Path.{◌≡◌, refl, ap, ◌∙◌}
use mathlib.Core.Bool.{Bool, false}
use mathlib.Core.List.{List, [], ◌∷◌}
use Prim.Native.Nat.{ℕ}
use lib.ListN.{length}
use Rattle.lists.proofs.Tests.{bit_is_one}
use Rattle.grid.specs.Window.{neighbours}
use Rattle.refusals.specs.declared.Refusal.{Refusal}
use Rattle.refusals.specs.Tests.{board_tested, start_cell}
use Rattle.refusals.proofs.Accepted.{accepted_board}
use Rattle.fitting.specs.Passes.{Ending, judge}
use Rattle.fitting.specs.Demand.{Demand3Among, picture, opened}
use Rattle.fitting.proofs.Passes.{judge_demand_3_among}
use Rattle.verdict.specs.Rules.{rules_of, layouts_of}
use Rattle.verdict.specs.Verdict.{VerdictAnswer, VerdictSeen, verdict_seen, judged_from, verdict_after_tests, is_solvable, MeetsDemand3}
use Rattle.verdict.proofs.KindsOfBoard.{own_passes, rules_sound, rules_complete}
use Rattle.refusals.proofs.Admitted.{tested_accepted}
use Rattle.refusals.specs.Refusals.{Accepted, Tested}

-- after the tests: a refusal is the answer, and both slices stay as they were; a board that they accept is judged
pub after_refusal : (t : Tested) (w : VerdictSeen) (shown opened_in : List ℕ) (x : Refusal) → t ≡ Err x → verdict_seen (Err x) shown opened_in ≡ verdict_after_tests t w shown opened_in
after_refusal t w shown opened_in x refuses = rw refuses

pub after_acceptance : (t : Tested) (w : VerdictSeen) (shown opened_in : List ℕ) → t ≡ Accepted → verdict_after_tests t w shown opened_in ≡ w
after_acceptance t w shown opened_in accepts = rw accepts

module _ (edgeless : Bool) (rows columns row column : ℕ) (b shown opened_in : List ℕ) where
  -- the start's cell
  abbrev pub start : ℕ
  start = start_cell columns row column

  -- the lengths of the lent slices
  abbrev pub lent : List ℕ
  lent = length shown ∷ length opened_in ∷ []

  -- how the passes end, with the mine total shown or not
  abbrev pub passed : Bool → Ending
  passed total = judge (neighbours edgeless rows columns) b (rules_of total (neighbours edgeless rows columns) b) start

  module _ (tests : board_tested edgeless rows columns row column b lent ≡ Accepted) where
    -- the tests accept: the verdict is that from the start's cell, the end of the passes
    pub tests_accept : is_solvable edgeless rows columns row column b shown opened_in ≡ judged_from (neighbours edgeless rows columns) b (start_cell columns row column)
    unfolding is_solvable
    tests_accept = after_acceptance _ _ shown opened_in tests

    -- with the mine total shown or not
    pub passes_demand_3 : (total : Bool)
        → Demand3Among (neighbours edgeless rows columns) (layouts_of total b) b start (passed total).yes (opened (passed total).position) (picture (passed total).position)
    passes_demand_3 total =
        let accepted = accepted_board edgeless rows columns row column b lent tests in
        judge_demand_3_among (neighbours edgeless rows columns) (layouts_of total b) b (rules_of total (neighbours edgeless rows columns) b) start
        (tested_accepted edgeless rows columns row column b lent tests) (own_passes total b) accepted.start_within accepted.start_safe_lem
        (rules_sound edgeless rows columns b total) (rules_complete edgeless rows columns b total)

    -- demand 3 of an answer that is the definition's
    pub answer_demand_3 : (r : VerdictAnswer) (after rounds : List ℕ) → verdict_seen r after rounds ≡ is_solvable edgeless rows columns row column b shown opened_in
        → MeetsDemand3 (neighbours edgeless rows columns) b (start_cell columns row column) r after
    answer_demand_3 r after rounds e =
        let told = e ∙ tests_accept in
        rw (ap (λ (w : VerdictSeen). w.answer) told, ap (λ (w : VerdictSeen). w.shown) told) (refl, rw (bit_is_one (passed false).yes) (passes_demand_3 false))
