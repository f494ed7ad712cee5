-- `board_verdict` meets its contract: picture and rounds are lent as many zeros as the definition's. Assumes nothing.
use mathlib.Core.Path.{refl, sym, ap}
use Prim.Native.Nat.{ℕ}
use native.Mathlib.Omega.{arith}
use lib.ListN.{length, replicate, length-take, length-replicate}
use lib.Seq.{length-take-le}
use Rattle.record_lines.proofs.Answering.{verdict_of_zeros}
use borrow.Author.Rules.{rules}
use Rattle.record_lines.proofs.board_verdict.Goals as goal

pub slice_bounds-verdict_by_mark-end : goal.slice_bounds-verdict_by_mark-end
slice_bounds-verdict_by_mark-end c =
    let size = c.picture_size-size in
    sym (length-take-le size.result (replicate {A = ℕ} 1024 0) (omega (arith, size.ensures.upper_bound, length-replicate {A = ℕ} 1024 0)))

pub slice_bounds-verdict_by_mark-end-2 : goal.slice_bounds-verdict_by_mark-end-2
slice_bounds-verdict_by_mark-end-2 c =
    let size = c.picture_size-size in
    sym (length-take-le size.result (replicate {A = ℕ} 1024 0) (omega (arith, size.ensures.upper_bound, length-replicate {A = ℕ} 1024 0)))

pub returns : goal.returns
returns c =
    let size = c.picture_size-size.ensures in
    verdict_of_zeros _ _ _ _ _ size.value size.upper_bound refl refl c.verdict_by_mark.ensures
