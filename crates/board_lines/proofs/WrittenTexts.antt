-- Texts written one behind the other into a buffer, each from a place on. Where the first ends inside the buffer, the second begins at its end; where the buffer was full, the
-- second changes nothing, and neither would the rest of both together. Rests on the laws of runs of stores. Assumes nothing.
use Prim.Native.Nat.{ℕ, ◌+◌, ◌≤◌, ◌<◌}
use mathlib.Core.Path.{◌≡◌, sym, ◌∙◌}
use mathlib.Core.List.{List, ◌++◌}
use native.Mathlib.Decide.{dec_lt}
use native.Mathlib.Omega.{arith}
use lib.ListN.{length, length-append}
use lib.Seq.{sets}
use Rattle.lists.proofs.Stores.{sets_append, sets_past_end}
use Rattle.text.specs.Text.{Written}
use Rattle.text.proofs.Writing.{written_length}
use Rattle.verdict.specs.Verdict.{VerdictSeen}
use Rattle.record_lines.specs.Answers.{verdict_text}
use Rattle.board_lines.specs.Verdicts.{picture_text, rounds_text, verdict_seen_text}

pub written_past_end : (b : List ℕ) (at : ℕ) (text : List ℕ) → at ≡ length b → Written b at text b at
written_past_end b at text h = record { is = sym (sets_past_end b at text (omega arith)); next = omega arith }

module _ {b : List ℕ} {at : ℕ} {x middle : List ℕ} {r : ℕ} {y after : List ℕ} {s : ℕ} where
  pub written_both : at ≤ length b → Written b at x middle r → Written middle r y after s → Written b at (x ++ y) after s
  written_both h v w = record { is = w.is ∙ go (dec_lt (at + length x) (length b)); next = omega (arith, v.next, w.next, written_length v, length-append x y) }
    where
      stored : sets middle (at + length x) y ≡ sets b at (x ++ y)
      stored = rw v.is (sym (sets_append b at x y))

      go : Dec (at + length x < length b) → sets middle r y ≡ sets b at (x ++ y)
      go (yes i) = let e : r ≡ at + length x = omega (arith, v.next) in rw e stored
      go (no i) =
          sets_past_end middle r y (omega (arith, v.next, written_length v))
          ∙ sym (sets_past_end middle (at + length x) y (omega (arith, written_length v)))
          ∙ stored

-- what the caller sees of a verdict
pub seen_written : {b first : List ℕ} {s : ℕ} {after : List ℕ} {r : ℕ} (w : VerdictSeen)
    → Written b 0 (verdict_text w.answer) first s → Written first s (picture_text w.answer w.shown ++ rounds_text w.answer w.opened_in) after r
    → Written b 0 (verdict_seen_text w) after r
seen_written w verdict slices = written_both (omega arith) verdict slices
