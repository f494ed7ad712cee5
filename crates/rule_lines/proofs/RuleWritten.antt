-- The writes that make up a rule's answer: what it found, and the blocks left behind that. Rests on the law of two writes joined, of the crate text. Assumes nothing.
use mathlib.Core.Path.{◌≡◌, sym, subst}
use mathlib.Core.List.{List, [], ◌∷◌}
use Prim.Native.Nat.{ℕ}
use lib.ListN.{take}
use Rattle.std.specs.Prelude.{Result}
use Rattle.refusals.specs.declared.Refusal.{Refusal}
use Rattle.deductions.specs.declared.answer.DeductionAnswer.{DeductionAnswer}
use Rattle.deductions.specs.Answers.{Seen, safe_count, mine_count}
use Rattle.deductions.specs.declared.Rule.{Rule}
use Rattle.text.specs.declared.Text.{Text}
use Rattle.text.specs.Text.{Wrote}
use Rattle.text.proofs.Writing.{wrote_both}
use Rattle.show.specs.Blocks.{numbers_text}
use Rattle.show.specs.Cells.{cells_text}
use Rattle.rule_lines.specs.Deductions.{found_text, text_after, deduction_text}

-- what a rule found
pub found_written : {before safe safe_list mine mine_list word after : Text} (w : Seen)
    → Wrote before safe (115 ∷ 97 ∷ 102 ∷ 101 ∷ 32 ∷ []) → Wrote safe safe_list (numbers_text (take (safe_count w.answer) w.safe))
    → Wrote safe_list mine (32 ∷ 109 ∷ 105 ∷ 110 ∷ 101 ∷ 32 ∷ []) → Wrote mine mine_list (numbers_text (take (mine_count w.answer) w.mines))
    → Wrote mine_list word (32 ∷ 112 ∷ 111 ∷ 115 ∷ []) → Wrote word after (cells_text w.position)
    → Wrote before after (found_text w)
unfolding found_text
found_written w first firsts second seconds third thirds =
    wrote_both (wrote_both first firsts) (wrote_both (wrote_both second seconds) (wrote_both third thirds))

-- what its caller sees, by the answer
pub deduction_written : {before after : Text} {r : Result DeductionAnswer Refusal} (rule : Rule) (w : Seen) → w.answer ≡ r
    → Wrote before after (text_after rule r w) → Wrote before after (deduction_text rule w)
unfolding deduction_text
deduction_written {before} {after} rule w e h = subst (λ (x : Result DeductionAnswer Refusal). Wrote before after (text_after rule x w)) (sym e) h
