-- The 3BV as C and Rust see it: where there is room for a count, the board's 3BV stands there. Rests on what the call's answer tells. Assumes nothing.
use mathlib.Core.Path.{◌≡◌, refl, sym}
use mathlib.Core.List.{List, [], ◌∷◌}
use Prim.Native.Nat.{ℕ, ◌<◌}
use native.Mathlib.Omega.{arith}
use lib.ListN.{length, get_or}
use Rattle.grid.specs.Window.{flat, neighbours}
use Rattle.refusals.specs.Tests.{bbbv_tested}
use Rattle.bbbv.specs.Openings.{bbbv}
use Rattle.bbbv.specs.Groups.{IsBbbv}
use Rattle.bbbv.specs.Answer.{cal_bbbv}
use Rattle.bbbv.proofs.OnBoard.{counted_answer, answer_counts}
use Rattle.export.specs.Returned.{Returned, bbbv_returned}
use Rattle.export.proofs.StoredCounts.{count_stored}
use Rattle.refusals.specs.Refusals.{Accepted}

pub counted_bbbv : (rows columns : ℕ) (b counts : List ℕ) (after : Returned) → after ≡ bbbv_returned (cal_bbbv flat rows columns b) counts
    → bbbv_tested flat rows columns b ≡ Accepted → 0 < length counts → IsBbbv (neighbours flat rows columns) b (get_or after.counts 0 0)
unfolding bbbv_returned
counted_bbbv rows columns b counts after is accepted room =
    let n = bbbv (neighbours flat rows columns) b in
    let answer = counted_answer flat rows columns b accepted refl in
    rw (is, ← answer, count_stored (n ∷ []) counts 0 (omega arith) room) (answer_counts flat rows columns b n (sym answer))
