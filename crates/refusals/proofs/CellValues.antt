-- Which numbers the tests of a board cell and of a position cell take: that the code's one test, of 0 to 8 and a lowest to a highest, is the board's from 255
-- to 255, as it is the position's from 10 to 12 by definition; and what a cell that passes is. Assumes nothing.
use mathlib.Core.Path.{◌≡◌, refl}
use mathlib.Core.Logic.{◌⊎◌, inl, inr}
use mathlib.Core.Bool.{Bool, true, ◌&&◌}
use mathlib.Core.List.{List, [], ◌∷◌}
use Prim.Native.Nat.{ℕ, ◌≤◌}
use native.Mathlib.Omega.{arith}
use native.Mathlib.Decide.{ℕ_discrete}
use lib.Dec.{leb, eqb}
use borrow.Author.Tests.{leb-true, eqb-true, eq-eqb}
use Rattle.std.specs.List.{list_all}
use Rattle.lists.specs.Lists.{all}
use Rattle.lists.proofs.Tests.{same_test, and_left, and_right, or_cases}
use Rattle.grid.specs.Cells.{is_board_cell, is_position_cell}
use Rattle.refusals.specs.Tests.{board_cells_ok}
use Rattle.refusals.specs.SharedTests.{cell_in}

-- the library's word for a test that each element of a list passes
pub all_listed : (f : ℕ → Bool) (b : List ℕ) → list_all f b ≡ all f b
all_listed f [] = refl
all_listed f (v ∷ b) = rw (all_listed f b)

pub board_cells_in : (b : List ℕ) → all (cell_in 255 255) b ≡ board_cells_ok b
unfolding board_cells_ok
board_cells_in [] = refl
board_cells_in (v ∷ b) = rw (only_255, board_cells_in b)
  where
    both : (leb 255 v && leb v 255) ≡ true → v ≡ 255
    both h = omega (arith, leb-true 255 v (and_left (leb 255 v) (leb v 255) h), leb-true v 255 (and_right (leb 255 v) (leb v 255) h))

    only_255 : (leb 255 v && leb v 255) ≡ eqb v 255
    only_255 = same_test (leb 255 v && leb v 255) (eqb v 255) (λ h. eq-eqb v 255 (both h)) (λ h. rw (eqb-true v 255 h))

module _ (v : ℕ) where
  pub board_cell : is_board_cell v ≡ true → (v ≡ 255) ⊎ (v ≤ 8)
  board_cell h = go (or_cases (leb v 8) (eqb v 255) h)
    where
      go : (leb v 8 ≡ true) ⊎ (eqb v 255 ≡ true) → (v ≡ 255) ⊎ (v ≤ 8)
      go (inl e) = inr (leb-true v 8 e)
      go (inr e) = inl (eqb-true v 255 e)

  pub position_shows : is_position_cell v ≡ true → (v ≤ 8) ⊎ (v ≡ 10) ⊎ (v ≡ 11) ⊎ (v ≡ 12)
  position_shows h = go (or_cases (leb v 8) (leb 10 v && leb v 12) h)
    where
      closed : 10 ≤ v → v ≤ 12 → Dec (v ≡ 10) → Dec (v ≡ 11) → (v ≤ 8) ⊎ (v ≡ 10) ⊎ (v ≡ 11) ⊎ (v ≡ 12)
      closed l u (yes e) _ = inr (inl e)
      closed l u (no a) (yes e) = inr (inr (inl e))
      closed l u (no a) (no b) = inr (inr (inr (omega arith)))

      go : (leb v 8 ≡ true) ⊎ ((leb 10 v && leb v 12) ≡ true) → (v ≤ 8) ⊎ (v ≡ 10) ⊎ (v ≡ 11) ⊎ (v ≡ 12)
      go (inl e) = inl (leb-true v 8 e)
      go (inr e) = closed (leb-true 10 v (and_left (leb 10 v) (leb v 12) e)) (leb-true v 12 (and_right (leb 10 v) (leb v 12) e)) (ℕ_discrete v 10) (ℕ_discrete v 11)
