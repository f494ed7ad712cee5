-- The writes that make up a line, one behind the other: `refused` and its number, or the word of the verdict and its three numbers; before them the record's number and a space,
-- and behind them the end of the line. Rests on the law of two writes joined, of the crate text. Assumes nothing.
use Prim.Native.Nat.{ℕ}
use mathlib.Core.Path.{◌≡◌}
use mathlib.Core.Bool.{Bool}
use mathlib.Core.List.{[], ◌∷◌}
use Rattle.lists.proofs.Tests.{bit_is_one}
use Rattle.refusals.specs.declared.Refusal.{Refusal}
use Rattle.refusals.specs.Refusals.{refusal_number}
use Rattle.refusals.proofs.FirstFailure.{refusal_not_zero}
use Rattle.verdict.specs.Verdict.{VerdictAnswer, verdict_of}
use Rattle.std.specs.Prelude.{Err}
use Rattle.text.specs.declared.Text.{Text}
use Rattle.text.specs.Text.{decimal, Wrote}
use Rattle.text.proofs.Writing.{wrote_both}
use Rattle.show.specs.Refusals.{refused_text}
use Rattle.record_lines.specs.Answers.{verdict_word, verdict_text, line_text}

pub refused_written : {before after : Text} {v : VerdictAnswer} {refusal : Refusal} → v ≡ Err refusal → Wrote before after (refused_text (refusal_number refusal))
    → Wrote before after (verdict_text v)
unfolding verdict_text
refused_written {refusal = refusal} e w = rw (e, refusal_not_zero refusal) w

pub judged_written : {before word cells gap strength space after : Text} {v : VerdictAnswer} {yes : Bool} {opened grade rounds : ℕ} → v ≡ verdict_of yes opened grade rounds
    → Wrote before word (verdict_word yes) → Wrote word cells (decimal opened) → Wrote cells gap (32 ∷ []) → Wrote gap strength (decimal grade)
    → Wrote strength space (32 ∷ []) → Wrote space after (decimal rounds)
    → Wrote before after (verdict_text v)
unfolding verdict_text
judged_written {yes = solvable} e u v w x y z = rw (e, bit_is_one solvable) (wrote_both u (wrote_both v (wrote_both w (wrote_both x (wrote_both y z)))))

pub line_written : {before count gap verdict after : Text} (number : ℕ) (v : VerdictAnswer)
    → Wrote before count (decimal number) → Wrote count gap (32 ∷ []) → Wrote gap verdict (verdict_text v) → Wrote verdict after (10 ∷ [])
    → Wrote before after (line_text number v)
unfolding line_text
line_written number v w x y z = wrote_both w (wrote_both x (wrote_both y z))
