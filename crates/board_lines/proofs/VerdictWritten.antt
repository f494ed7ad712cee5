-- The slices that the verdict is lent for a line with a start: each is the front of an array of zeros, which is as many zeros. Assumes nothing.
use mathlib.Core.Path.{◌≡◌, sym, ◌∙◌}
use mathlib.Core.List.{List, ◌++◌}
use Prim.Native.Nat.{ℕ, ◌≤◌}
use native.Mathlib.Omega.{arith}
use lib.ListN.{length, take, drop, replicate, length-append, length-replicate}
use lib.Seq.{take_at}
use Rattle.lists.proofs.Arrays.{take_replicate}
use Rattle.records.specs.declared.BoardMark.{BoardMark}
use Rattle.lines.specs.declared.StartLine.{StartLine}
use Rattle.record_lines.specs.Answers.{verdict_by_mark}
use Rattle.board_lines.specs.Verdicts.{head_on, verdict_on}

abbrev pub zeros : List ℕ
zeros = replicate 1025 0

pub zeros_long : (n : ℕ) → n ≤ 1025 → n ≡ length (take n zeros)
zeros_long n h = rw (take_replicate {A = ℕ} n 1025 0 h) (sym (length-replicate {A = ℕ} n 0))

pub lent_zeros : (mark : BoardMark) (read : StartLine) → read.board.len ≤ 1025
    → verdict_by_mark (head_on mark read) (take read.board.len read.board.cells) (take read.board.len zeros) (take read.board.len zeros)
    ≡ verdict_on mark read
lent_zeros mark read h = rw (take_replicate {A = ℕ} read.board.len 1025 0 h)

-- what the call leaves in it stands in front of the other zeros
pub record InPlace (n : ℕ) (left : List ℕ) : Type 0 where
  pub within : n ≤ length (left ++ drop n zeros)
  pub long : n ≡ length (take n (left ++ drop n zeros))
  pub front : take n (left ++ drop n zeros) ≡ left

pub in_place : (n : ℕ) → n ≤ 1025 → (left : List ℕ) → length left ≡ length (take n zeros) → InPlace n left
in_place n h left kept =
    let e : length left ≡ n = kept ∙ sym (zeros_long n h) in
    let front = take_at left (drop n zeros) n e in
    record { within = simp length-append (omega arith); long = rw front (sym e); front = front }
