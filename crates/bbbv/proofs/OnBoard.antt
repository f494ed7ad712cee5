-- The laws of 3BV on a board with rows and columns, whose window is mutual and lists cells of the board: the code's two counts make the 3BV (`counted_bbbv`), which
-- is the number of connected groups of zeros and of lone cells (`board_bbbv`); the two forms of the call's answer, and that a number it tells is the 3BV
-- (`answer_counts`). Rests on Flooded and ConnectedZeros. Assumes nothing.
use Rattle.std.specs.Prelude.{Ok, Err}
use mathlib.Core.Path.{◌≡◌, refl, ◌∙◌}
use mathlib.Core.Bool.{Bool, true}
use mathlib.Core.List.{List}
use Prim.Native.Nat.{ℕ, ◌+◌, ◌≤◌, ◌<◌}
use native.Mathlib.Omega.{arith}
use lib.ListN.{length}
use Rattle.lists.specs.Lists.{range, has}
use Rattle.lists.proofs.Counts.{count_le}
use Rattle.lists.proofs.Rearranged.{length_range}
use Rattle.grid.specs.Window.{neighbours, Board}
use Rattle.grid.proofs.Places.{few_cells}
use Rattle.grid.proofs.Neighbours.{neighbours_on, neighbours_mutual, neighbours_few}
use Rattle.refusals.specs.declared.Refusal.{Refusal}
use Rattle.refusals.specs.Tests.{bbbv_tested}
use Rattle.refusals.proofs.Accepted.{accepted_bbbv}
use Rattle.refusals.proofs.Admitted.{bbbv_accepted}
use Rattle.fitting.specs.Boards.{Accepted}
use Rattle.bbbv.specs.Openings.{is_first, openings, bbbv}
use Rattle.bbbv.specs.Groups.{IsBbbv}
use Rattle.bbbv.specs.Flooded.{flooded, is_closed_safe, closed_safe}
use Rattle.bbbv.specs.Answer.{cal_bbbv}
use Rattle.bbbv.proofs.Flooded.{closed_lone}
use Rattle.bbbv.proofs.ConnectedZeros.{bbbv_counts}
use Rattle.refusals.specs.Refusals.{Tested}

-- neither count is above the number of cells
pub counts_small : (near : ℕ → List ℕ) (b p : List ℕ) {rows columns m n : ℕ} → Board b rows columns → m ≡ openings near b → n ≡ closed_safe b p → m + n ≤ 2048
unfolding openings closed_safe
counts_small near b p board e f =
    let cells = range 0 (length b) in
    omega (arith, e, f, count_le (is_first near b) cells, count_le (is_closed_safe b p) cells, length_range 0 (length b), board.whole, few_cells board.sized)

module _ (edgeless : Bool) (rows columns : ℕ) (b : List ℕ) (board : Board b rows columns) (ok : Accepted (neighbours edgeless rows columns) b) where
  few : (c : ℕ) → c < length b → length (neighbours edgeless rows columns c) ≤ 8
  few c _ = neighbours_few edgeless rows columns c

  both_ways : (c d : ℕ) → c < length b → has (neighbours edgeless rows columns c) d ≡ true → has (neighbours edgeless rows columns d) c ≡ true
  both_ways c d l = neighbours_mutual edgeless rows columns c d (rw board.whole at l)

  within : (c d : ℕ) → c < length b → has (neighbours edgeless rows columns c) d ≡ true → d < length b
  within c d _ h = rw board.whole (neighbours_on edgeless rows columns c d h)

  pub counted_bbbv : {position : List ℕ} → position ≡ flooded (neighbours edgeless rows columns) b (length b)
      → openings (neighbours edgeless rows columns) b + closed_safe b position ≡ bbbv (neighbours edgeless rows columns) b
  unfolding bbbv
  counted_bbbv e = rw (e, closed_lone (neighbours edgeless rows columns) b ok few both_ways within)

  pub board_bbbv : IsBbbv (neighbours edgeless rows columns) b (bbbv (neighbours edgeless rows columns) b)
  board_bbbv = bbbv_counts (neighbours edgeless rows columns) b ok few both_ways

module _ (edgeless : Bool) (rows columns : ℕ) (b : List ℕ) where
  pub refused_answer_lem : {r : Refusal} → bbbv_tested edgeless rows columns b ≡ Err r → Err r ≡ cal_bbbv edgeless rows columns b
  unfolding cal_bbbv
  refused_answer_lem h = rw h

  pub counted_answer : {n : ℕ} → bbbv_tested edgeless rows columns b ≡ Ok tt → n ≡ bbbv (neighbours edgeless rows columns) b → Ok n ≡ cal_bbbv edgeless rows columns b
  unfolding cal_bbbv
  counted_answer h e = rw (h, e)

  -- a number that the call answers is the 3BV of the board
  pub answer_counts : (n : ℕ) → cal_bbbv edgeless rows columns b ≡ Ok n → IsBbbv (neighbours edgeless rows columns) b n
  answer_counts n e = go (bbbv_tested edgeless rows columns b) refl
    where
      go : (t : Tested) → bbbv_tested edgeless rows columns b ≡ t → IsBbbv (neighbours edgeless rows columns) b n
      go (Err r) h = let both : Err r ≡ Ok n = refused_answer_lem h ∙ e in let z : ◌≡◌ {A = ℕ} 0 1 = cc in absurd (omega arith)
      go (Ok _) h =
          let same : Ok (bbbv (neighbours edgeless rows columns) b) ≡ Ok n = counted_answer h refl ∙ e in
          let is : bbbv (neighbours edgeless rows columns) b ≡ n = cc in
          rw is at (board_bbbv edgeless rows columns b (accepted_bbbv edgeless rows columns b h).board (bbbv_accepted edgeless rows columns b h))
