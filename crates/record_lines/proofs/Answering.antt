-- The picture and the rounds that the verdict of a record is lent are parts of arrays of zeros, which are as many zeros. Assumes nothing.
use Prim.Native.Nat.{ℕ, ◌≤◌}
use mathlib.Core.Path.{◌≡◌, sym, ap, ◌∙◌}
use mathlib.Core.List.{List}
use lib.ListN.{take, replicate}
use Rattle.lists.proofs.Arrays.{take_replicate}
use Rattle.records.specs.declared.Head.{Head}
use Rattle.verdict.specs.Verdict.{VerdictAnswer, VerdictSeen, verdict_seen}
use Rattle.record_lines.specs.Answers.{picture_size, verdict_by_mark, board_verdict}

-- so the call's answer is the record's verdict
pub verdict_of_zeros : {shown opened_in : List ℕ} {v : VerdictAnswer} (h : Head) (cells : List ℕ) (size : ℕ) (picture rounds : List ℕ)
    → size ≡ picture_size h.rows h.columns → size ≤ 1024 → picture ≡ replicate 1024 0 → rounds ≡ replicate 1024 0
    → verdict_seen v shown opened_in ≡ verdict_by_mark h cells (take size picture) (take size rounds) → v ≡ board_verdict h cells
unfolding board_verdict
verdict_of_zeros h cells size picture rounds g few i j told =
    let z : take size (replicate {A = ℕ} 1024 0) ≡ replicate (picture_size h.rows h.columns) 0 = rw (sym g) (take_replicate size 1024 0 few) in
    ap (λ (s : VerdictSeen). s.answer) told ∙ rw (i, j, z)
