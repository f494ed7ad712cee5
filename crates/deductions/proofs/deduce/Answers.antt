-- `deduce` meets its contract: a refusal by the tests ends the call; else the frontier is read, the rule runs on it and its answer is handed to the caller; the
-- other clauses are laws of the call, from this equation. Rests on Deductions, SoundCalls, Contradictions and the contracts of the calls. Assumes nothing.
use Rattle.std.specs.Prelude.{Result, Ok, Err}
use mathlib.Core.Path.{◌≡◌, sym, ◌∙◌}
use mathlib.Core.Bool.{Bool}
use mathlib.Core.List.{List}
use Prim.Native.Nat.{ℕ}
use lib.ListN.{length}
use Rattle.std.proofs.lemmas.Result.{err_from_is_err_and}
use Rattle.refusals.specs.declared.Refusal.{Refusal}
use Rattle.refusals.specs.Refusals.{tested_number}
use Rattle.refusals.proofs.Accepted.{AcceptedDeduction, accepted_deduction}
use Rattle.frontier.proofs.ReadFrontier.{read_whole}
use Rattle.direct.proofs.FrontierReady.{read_ready}
use Rattle.frontier.proofs.CombinableBlocks.{read_combinable}
use Rattle.deductions.specs.Answers.{seen, safe_count, mine_count, deduction}
use Rattle.deductions.specs.Calls.{SoundCall}
use Rattle.deductions.specs.ByRule.{rule_on, CompleteBy, RefusesBy}
use Rattle.deductions.specs.declared.Rule.{Rule}
use Rattle.deductions.specs.declared.answer.DeductionAnswer.{DeductionAnswer}
use Rattle.deductions.proofs.Deductions.{tests_refuse, held_if_ok, answer_seen}
use Rattle.deductions.proofs.SoundCalls.{call_sound, call_complete}
use Rattle.deductions.proofs.Contradictions.{call_refuses_by_rule}
use Rattle.deductions.proofs.deduce.Goals as goal
use Rattle.deductions.proofs.deduce.Goals.{In_ok-test_deduction}

module _ (edgeless : Bool) (rows columns : ℕ) (p s m : List ℕ) (r : Result DeductionAnswer Refusal) (p' s' m' : List ℕ) where
  -- the clauses, by the first
  clauses : (rule : Rule) → seen r p' s' m' ≡ deduction (rule_on rule) edgeless rows columns p s m
      → (seen r p' s' m' ≡ deduction (rule_on rule) edgeless rows columns p s m)
      × (SoundCall edgeless rows columns p s m (tested_number r) (safe_count r) (mine_count r) p' s' m'
      × (CompleteBy rule edgeless rows columns p s m (tested_number r) (safe_count r) (mine_count r) s' m' × RefusesBy rule edgeless rows columns p s m (tested_number r)))
  clauses rule is = (is, (call_sound rule edgeless rows columns p s m r p' s' m' is, (call_complete edgeless rows columns p s m r p' s' m' rule is, call_refuses_by_rule edgeless rows columns p s m r p' s' m' rule is)))

-- this is known of input that the tests accept
facts : (c : In_ok-test_deduction)
    → (let a = c.args in AcceptedDeduction a.size.rows a.size.columns a.position.now (length a.safe.now) (length a.mines.now))
facts c = accepted_deduction _ _ _ _ _ (sym c.in_ok-test_deduction.ensures)

pub returns-in_err-test_deduction : goal.returns-in_err-test_deduction
returns-in_err-test_deduction c =
    let a = c.args in
    let p = err_from_is_err_and c.from_residual.result c.from_residual.ensures.1 in
    let is : seen c.from_residual.result a.position.now a.safe.now a.mines.now
    ≡ deduction (rule_on a.rule) a.size.edgeless a.size.rows a.size.columns a.position.now a.safe.now a.mines.now =
    rw (p.1, p.2) (tests_refuse a.rule a.size.edgeless a.size.rows a.size.columns a.position.now a.safe.now a.mines.now (sym c.in_err-test_deduction.ensures)) in
    let all = clauses a.size.edgeless a.size.rows a.size.columns a.position.now a.safe.now a.mines.now _ _ _ _ a.rule is in
    record { mines_after = all.0; sound = all.1.0; complete = all.1.1.0; six = all.1.1.1 }

pub read_blocks-requires : goal.read_blocks-requires
read_blocks-requires c = (facts c).position.board

pub run_rule-found-requires : goal.run_rule-found-requires
run_rule-found-requires c =
    let board = (facts (goal.at.run_rule-found-requires c).In_ok-test_deduction).position.board in
    let read = c.read_blocks.ensures in
    record { whole = read_whole _ _ _ _ board _ read; ready = read_ready _ _ _ _ board _ read; combinable = read_combinable _ _ _ _ board _ read }

pub give_answer-requires : goal.give_answer-requires
give_answer-requires c =
    let a = c.args in
    held_if_ok a.rule a.size.edgeless a.size.rows a.size.columns a.position.now a.safe.now a.mines.now (sym c.in_ok-test_deduction.ensures) c.read_blocks.result c.read_blocks.ensures
    _ c.run_rule-found.ensures.value c.run_rule-found.ensures.left_whole

pub returns : goal.returns
returns c =
    let a = c.args in
    let all = clauses a.size.edgeless a.size.rows a.size.columns a.position.now a.safe.now a.mines.now _ _ _ _ a.rule
    (c.give_answer.ensures
    ∙ answer_seen a.rule a.size.edgeless a.size.rows a.size.columns a.position.now a.safe.now a.mines.now (sym c.in_ok-test_deduction.ensures) c.read_blocks.result c.read_blocks.ensures
    _ c.run_rule-found.ensures.value c.run_rule-found.ensures.left_whole) in
    record { mines_after = all.0; sound = all.1.0; complete = all.1.1.0; six = all.1.1.1 }
