-- No trace in the next: the line of a whole record depends on its own bytes and its number, whatever stands before and behind it, and the next record begins where its size says.
-- Assumes nothing.
use Rattle.verdict.specs.Verdict.{VerdictAnswer}
use mathlib.Core.Path.{◌≡◌, sym, ap, ◌∙◌}
use mathlib.Core.List.{List, ◌∷◌, ◌++◌}
use Prim.Native.Nat.{ℕ, ◌+◌}
use native.Mathlib.Omega.{arith}
use lib.ListN.{length, drop_of_length-le}
use mathlib.Core.Bool.{true}
use Rattle.records.specs.Records.{record_length, known_mark, head_of, cells_in}
use Rattle.record_lines.specs.Answers.{board_verdict, line_text}
use Rattle.records.proofs.RecordKinds.{mark_of, six_or_more, record_whole}
use Rattle.run.specs.Run.{verdicts, lines}
use Rattle.run.proofs.Verdicts.{verdicts_whole}

-- the verdict of a whole record, by its own bytes
abbrev pub own_verdict : List ℕ → VerdictAnswer
own_verdict r = board_verdict (head_of (mark_of r) r) (cells_in r)

module _ (r rest : List ℕ) (whole : length r ≡ record_length r) (known : known_mark (mark_of r) ≡ true) where
  -- the verdicts of a whole record and what follows it: its own, and those of what follows
  pub own_bytes : verdicts (r ++ rest) ≡ own_verdict r ∷ verdicts rest
  own_bytes =
      verdicts_whole r rest _ (sym (record_whole r (omega (arith, whole, six_or_more r)) known (omega (arith, whole))))
      ∙ ap (λ (l : List ℕ). own_verdict r ∷ verdicts (l ++ rest)) (drop_of_length-le r {i = record_length r} (omega (arith, whole)))

  -- and so their lines
  pub own_line : (n : ℕ) → lines n (verdicts (r ++ rest)) ≡ line_text n (own_verdict r) ++ lines (n + 1) (verdicts rest)
  own_line n = ap (lines n) own_bytes
