-- A rule called on a position, step by step. A refusal by the tests ends the call. Else the frontier is read, which is fit for the rule; what the rule lists are
-- cells of the frontier, so on the board, and at most as many as it has cells, so that the lent slices have room; and what the caller then sees is the
-- definition's. Said once for the three rules. Rests on Handed, on ReadFrontier of the crate frontier and on the laws that each rule is sound at a position. Assumes nothing.
use Rattle.std.specs.Prelude.{Result, Ok, Err, IfOk}
use mathlib.Core.Path.{◌≡◌, sym, ap, ◌∙◌}
use mathlib.Core.Bool.{Bool}
use mathlib.Core.List.{List}
use Prim.Native.Nat.{ℕ, ◌*◌, ◌≤◌}
use native.Mathlib.Omega.{arith}
use lib.ListN.{length}
use Rattle.grid.specs.Window.{neighbours}
use Rattle.grid.proofs.Places.{few_cells}
use Rattle.grid.proofs.Neighbours.{neighbours_nodup, neighbours_few}
use Rattle.refusals.specs.declared.Refusal.{Refusal}
use Rattle.refusals.specs.declared.Refusal.TheVariants.{Contradiction}
use Rattle.refusals.specs.Tests.{deduction_tested}
use Rattle.refusals.proofs.Accepted.{AcceptedDeduction, accepted_deduction}
use Rattle.blocks.specs.Blocks.{Block}
use Rattle.blocks.specs.BlockSets.{block_set, blocks_of, Whole}
use Rattle.blocks.specs.declared.BlockSet.{BlockSet}
use Rattle.frontier.specs.Frontier.{frontier}
use Rattle.frontier.proofs.ReadFrontier.{read_frontier}
use Rattle.direct.specs.Answers.{rule_answer, found_in}
use Rattle.direct.specs.declared.answer.RuleAnswer.{RuleAnswer}
use Rattle.direct.proofs.Soundness.{SoundAt, listed_few, direct_sound_at, listed_below}
use Rattle.subtraction.proofs.Soundness.{subtraction_sound_at}
use Rattle.enumeration.proofs.Completeness.{enumeration_sound_at}
use Rattle.deductions.specs.Answers.{Held, seen, after_found, deduction}
use Rattle.deductions.specs.ByRule.{rule_on}
use Rattle.deductions.specs.declared.Rule.{Rule}
use Rattle.deductions.specs.declared.Rule.TheVariants.{Direct, Minus, Enumerate}
use Rattle.direct.specs.declared.answer.Contradiction.{Contradiction as RuleContradiction}
use Rattle.deductions.proofs.Handed.{after_contradiction, contradiction_seen, same_seen, contradiction_answered, struct_found, struct_held}
use Rattle.refusals.specs.Refusals.{Accepted}

-- ---- each rule is sound on a board

pub sound_on : (rule : Rule) (edgeless : Bool) (rows columns : ℕ) (p : List ℕ) → SoundAt (neighbours edgeless rows columns) p (rule_on rule (frontier (neighbours edgeless rows columns) p))
sound_on Direct edgeless rows columns p = direct_sound_at (neighbours edgeless rows columns) (neighbours_nodup edgeless rows columns) (neighbours_few edgeless rows columns) p
sound_on Minus edgeless rows columns p = subtraction_sound_at (neighbours edgeless rows columns) (neighbours_nodup edgeless rows columns) (neighbours_few edgeless rows columns) p
sound_on Enumerate edgeless rows columns p = enumeration_sound_at (neighbours edgeless rows columns) (neighbours_nodup edgeless rows columns) (neighbours_few edgeless rows columns) p

-- ---- a call

module _ (rule : Rule) (edgeless : Bool) (rows columns : ℕ) (p s m : List ℕ) where
  -- the tests refuse, and the answer is their refusal
  pub tests_refuse : {x : Refusal} → deduction_tested rows columns p (length s) (length m) ≡ Err x → seen (Err x) p s m ≡ deduction (rule_on rule) edgeless rows columns p s m
  tests_refuse h = rw h

  -- the tests accept
  tests_accept : deduction_tested rows columns p (length s) (length m) ≡ Accepted
      → after_found (rule_on rule (frontier (neighbours edgeless rows columns) p)) p s m ≡ deduction (rule_on rule) edgeless rows columns p s m
  tests_accept h = rw h

  -- the frontier is read and the rule runs on it
  module _
      (tests : deduction_tested rows columns p (length s) (length m) ≡ Accepted)
      (set : BlockSet) (read : set ≡ block_set (frontier (neighbours edgeless rows columns) p)) where
    accepted : AcceptedDeduction rows columns p (length s) (length m)
    accepted = accepted_deduction rows columns p (length s) (length m) tests

    -- it answers as on the frontier
    on_frontier : rule_answer (rule_on rule (blocks_of set)) ≡ rule_answer (rule_on rule (frontier (neighbours edgeless rows columns) p))
    on_frontier = ap (λ (bs : List Block). rule_answer (rule_on rule bs)) (read_frontier edgeless rows columns p accepted.position.board set read)

    -- a contradiction is refusal 6
    pub rule_contradicts : {e : RuleContradiction} → Err e ≡ rule_answer (rule_on rule (blocks_of set)) → seen (Err Contradiction) p s m ≡ deduction (rule_on rule) edgeless rows columns p s m
    rule_contradicts is =
        let f = rule_on rule (frontier (neighbours edgeless rows columns) p) in
        sym (after_contradiction f p s m (contradiction_answered f (is ∙ on_frontier))) ∙ tests_accept tests

    module _ (r : RuleAnswer) (is : Ok r ≡ rule_answer (rule_on rule (blocks_of set))) (whole : Whole r.left) where
      answered : Ok r ≡ rule_answer (rule_on rule (frontier (neighbours edgeless rows columns) p))
      answered = is ∙ on_frontier

      -- its answer can be handed to the caller
      pub rule_held : Held r (length p) (length s) (length m)
      rule_held =
          let near = neighbours edgeless rows columns in
          let f = rule_on rule (frontier near p) in
          let sound = sound_on rule edgeless rows columns p in
          let size : length p ≡ rows * columns = accepted.position.board.whole in
          let small : length p ≤ 1024 = omega (arith, few_cells accepted.position.board.sized) in
          let safe : length f.safe ≤ length p = listed_few near p f.safe sound.safe_among_lem in
          let mines : length f.mines ≤ length p = listed_few near p f.mines sound.mines_among_lem in
          struct_held f r answered whole (length p) (length s) (length m)
          (omega (arith, accepted.safe_room)) (omega (arith, accepted.mines_room)) (omega arith) (omega arith)
          (listed_below near p f.safe sound.safe_among_lem) (listed_below near p f.mines sound.mines_among_lem)

      -- and the caller sees what the definition says
      pub rule_seen : after_found (found_in (Ok r)) p s m ≡ deduction (rule_on rule) edgeless rows columns p s m
      rule_seen =
          let f = rule_on rule (frontier (neighbours edgeless rows columns) p) in
          same_seen (found_in (Ok r)) f p s m (struct_found f r answered whole) ∙ tests_accept tests

    -- what the rule answers can be handed to the caller, or is a contradiction
    pub held_if_ok : (r : Result RuleAnswer RuleContradiction) → r ≡ rule_answer (rule_on rule (blocks_of set)) → IfOk r (λ (answer : RuleAnswer). Whole answer.left)
        → IfOk r (λ (answer : RuleAnswer). Held answer (length p) (length s) (length m))
    held_if_ok (Ok r) is whole = rule_held r is whole
    held_if_ok (Err e) is whole = tt

    -- and the caller sees what the definition says
    pub answer_seen : (r : Result RuleAnswer RuleContradiction) → r ≡ rule_answer (rule_on rule (blocks_of set)) → IfOk r (λ (answer : RuleAnswer). Whole answer.left)
        → after_found (found_in r) p s m ≡ deduction (rule_on rule) edgeless rows columns p s m
    answer_seen (Ok r) is whole = rule_seen r is whole
    answer_seen (Err e) is whole = contradiction_seen e p s m ∙ rule_contradicts is
