-- The boards that the tests of a call on a board let through are the accepted boards of the mathematics, for any neighbours: each safe cell is 0 to 8 and
-- has its number of neighbouring mines. Rests on what an acceptance tells, and on `Own` of the crate fitting. Assumes nothing.
use mathlib.Core.Path.{◌≡◌, sym, ◌∙◌}
use mathlib.Core.Logic.{◌⊎◌, inl, inr, ◌≢◌}
use mathlib.Core.Bool.{Bool, true, ◌||◌}
use mathlib.Core.List.{List}
use Prim.Native.Nat.{ℕ, ◌≤◌, ◌<◌}
use lib.ListN.{length}
use lib.Dec.{eqb}
use borrow.Author.Tests.{eq-eqb, eqb-false}
use Rattle.lists.specs.Lists.{count}
use Rattle.lists.proofs.Tests.{Decided, decided, or_right, every_of}
use Rattle.lists.proofs.Counts.{count_ext}
use Rattle.grid.specs.Cells.{cell_of}
use Rattle.grid.specs.Window.{neighbours}
use Rattle.refusals.specs.Tests.{board_cells_ok, numbers_ok, mines_beside, board_tested, bbbv_tested}
use Rattle.refusals.proofs.Accepted.{board_cell_at, number_at, accepted_board, accepted_bbbv}
use Rattle.fitting.specs.Layouts.{mine_at}
use Rattle.fitting.specs.Boards.{own, Accepted}
use Rattle.fitting.proofs.Own.{own_at}
use Rattle.refusals.specs.Refusals.{Accepted as TestsPassed}

module _ (near : ℕ → List ℕ) (b : List ℕ) where
  -- a cell's neighbouring mines are counted alike on the board and in its own layout
  own_beside : (c : ℕ) → count (mine_at (own b)) (near c) ≡ mines_beside near b c
  own_beside c = count_ext (mine_at (own b)) (λ d. eqb (cell_of b d) 255) (near c) (λ d _. own_at b d)

  pub tests_accept : board_cells_ok b ≡ true → numbers_ok near b ≡ true → Accepted near b
  tests_accept cells numbers = record {
    small = λ c l safe. below safe (board_cell_at b cells c l);
    true_number = λ c l safe. own_beside c ∙ number_at near b numbers c l safe;
  }
    where
      below : {v : ℕ} → v ≢ 255 → (v ≡ 255) ⊎ (v ≤ 8) → v ≤ 8
      below safe (inl e) = absurd (safe e)
      below safe (inr l) = l

  -- and an accepted board's numbers pass
  pub accepted_numbers : Accepted near b → numbers_ok near b ≡ true
  unfolding numbers_ok
  accepted_numbers ok =
      every_of (length b) (λ c. eqb (cell_of b c) 255 || eqb (mines_beside near b c) (cell_of b c)) (λ c l. go c l (decided (eqb (cell_of b c) 255)))
    where
      go : (c : ℕ) → c < length b → Decided (eqb (cell_of b c) 255) → (eqb (cell_of b c) 255 || eqb (mines_beside near b c) (cell_of b c)) ≡ true
      go c l (inl e) = rw e
      go c l (inr e) = or_right (eqb (cell_of b c) 255) (eqb (mines_beside near b c) (cell_of b c)) (eq-eqb (mines_beside near b c) (cell_of b c) (sym (own_beside c) ∙ ok.true_number c l (eqb-false (cell_of b c) 255 e)))

-- a board call whose tests all pass is about an accepted board
pub tested_accepted : (edgeless : Bool) (rows columns row column : ℕ) (b lent : List ℕ) → board_tested edgeless rows columns row column b lent ≡ TestsPassed
    → Accepted (neighbours edgeless rows columns) b
tested_accepted edgeless rows columns row column b lent h =
    let a = accepted_board edgeless rows columns row column b lent h in tests_accept (neighbours edgeless rows columns) b a.cells a.numbers

-- and so is a 3BV call
pub bbbv_accepted : (edgeless : Bool) (rows columns : ℕ) (b : List ℕ) → bbbv_tested edgeless rows columns b ≡ TestsPassed → Accepted (neighbours edgeless rows columns) b
bbbv_accepted edgeless rows columns b h =
    let a = accepted_bbbv edgeless rows columns b h in tests_accept (neighbours edgeless rows columns) b a.cells a.numbers
