-- What a flood opens where every cell is closed: a safe cell is opened by a flood from one cell exactly where it is reached from there. Rests on the laws of the
-- flood. Assumes nothing.
use mathlib.Core.Path.{◌≡◌}
use mathlib.Core.Logic.{◌≢◌, ◌↔◌}
use mathlib.Core.Bool.{true}
use mathlib.Core.List.{List, [], ◌∷◌}
use Prim.Native.Nat.{ℕ, ◌≤◌, ◌<◌}
use native.Mathlib.Omega.{arith}
use lib.Dec.{leb}
use lib.ListN.{length, length-replicate, get_or-replicate}
use borrow.Author.Tests.{leb-true, le-leb}
use Rattle.grid.specs.Cells.{cell_of, shows}
use Rattle.fitting.specs.Boards.{Accepted}
use Rattle.fitting.specs.Passes.{open_cells}
use Rattle.fitting.proofs.Layouts.{on_board}
use Rattle.flood.specs.Reached.{Reached}
use Rattle.flood.proofs.SoFar.{reached_closed}
use Rattle.flood.proofs.Reached.{flood_opens_reached, flood_opened_reached}
use Rattle.bbbv.specs.Openings.{all_closed, opens}

-- every cell of the board is closed
pub closed_at : (b : List ℕ) (c : ℕ) → c < length b → shows (all_closed b) c ≡ 10
closed_at b c l = get_or-replicate (length b) c 10 255 l

pub all_closed_length : (b : List ℕ) → length (all_closed b) ≡ length b
all_closed_length b = length-replicate (length b) 10

-- a cell that is reached is on the board
pub reached_on : (near : ℕ → List ℕ) (b cs : List ℕ) {c : ℕ} → Reached near b (all_closed b) cs c → c < length b
reached_on near b cs {c} r =
    let shut = reached_closed near b (all_closed b) cs r in
    omega (arith, on_board (all_closed b) c (omega (arith, shut)), all_closed_length b)

module _ (near : ℕ → List ℕ) (b : List ℕ) (ok : Accepted near b) (few : (c : ℕ) → c < length b → length (near c) ≤ 8) where
  -- from a list: each reached cell shows its number, and a cell of the board that isn't closed any more was reached
  pub reached_shown : (cs : List ℕ) (c : ℕ) → Reached near b (all_closed b) cs c → shows (open_cells near b (all_closed b) cs) c ≡ cell_of b c
  reached_shown = flood_opens_reached near b ok few (all_closed b) (all_closed_length b)

  pub open_reached : (cs : List ℕ) (c : ℕ) → c < length b → shows (open_cells near b (all_closed b) cs) c ≢ 10 → Reached near b (all_closed b) cs c
  open_reached cs c l shown = flood_opened_reached near b ok few (all_closed b) (all_closed_length b) cs c (λ e. shown (rw (closed_at b c l) at e))

  pub opens_reached : (d c : ℕ) → c < length b → cell_of b c ≤ 8 → (opens near b d c ≡ true) ↔ Reached near b (all_closed b) (d ∷ []) c
  unfolding opens
  opens_reached d c l safe = (there, back)
    where
      there : leb (shows (open_cells near b (all_closed b) (d ∷ [])) c) 8 ≡ true → Reached near b (all_closed b) (d ∷ []) c
      there h = open_reached (d ∷ []) c l (λ e. omega (arith, e, leb-true (shows (open_cells near b (all_closed b) (d ∷ [])) c) 8 h))

      back : Reached near b (all_closed b) (d ∷ []) c → leb (shows (open_cells near b (all_closed b) (d ∷ [])) c) 8 ≡ true
      back r = le-leb (shows (open_cells near b (all_closed b) (d ∷ [])) c) 8 (omega (arith, reached_shown (d ∷ []) c r))
