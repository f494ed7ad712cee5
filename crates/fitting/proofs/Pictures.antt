-- The picture of a position shows the open cells and 10 elsewhere. So what is open in the one is open in the other, with the same number, and as many
-- cells are. Rests on Layouts. Assumes nothing.
use mathlib.Core.Path.{◌≡◌, refl, ◌∙◌}
use mathlib.Core.Logic.{inl, inr}
use mathlib.Core.Bool.{cond}
use mathlib.Core.List.{List, [], ◌∷◌}
use Prim.Native.Nat.{ℕ, zero, suc, ◌≤◌, ◌<◌}
use native.Mathlib.Omega.{arith}
use native.Mathlib.Nat.{not-suc-le-zero, le_of_suc-le-suc}
use native.Mathlib.Decide.{dec_le}
use lib.ListN.{length, length-map}
use lib.Dec.{leb}
use borrow.Author.Tests.{le-leb, lt-leb}
use Rattle.lists.proofs.Tests.{Decided, decided}
use Rattle.grid.specs.Cells.{shows}
use Rattle.fitting.specs.Demand.{picture, opened}
use Rattle.fitting.proofs.Layouts.{on_board}

picture_at : (p : List ℕ) (c : ℕ) → c < length p → shows (picture p) c ≡ cond (leb (shows p c) 8) (shows p c) 10
picture_at [] c l = absurd (not-suc-le-zero l)
picture_at (v ∷ p) zero l = refl
picture_at (v ∷ p) (suc c) l = picture_at p c (le_of_suc-le-suc l)

pub picture_length : (p : List ℕ) → length (picture p) ≡ length p
picture_length p = length-map p (λ (v : ℕ). cond (leb v 8) v 10)

-- an open cell has its number
pub picture_open : (p : List ℕ) (c : ℕ) → shows p c ≤ 8 → shows (picture p) c ≡ shows p c
picture_open p c o = picture_at p c (on_board p c (omega arith)) ∙ rw (le-leb (shows p c) 8 o)

-- any other cell of the board shows 10
pub picture_shut : (p : List ℕ) (c : ℕ) → c < length p → ¬ (shows p c ≤ 8) → shows (picture p) c ≡ 10
picture_shut p c l o = picture_at p c l ∙ rw (lt-leb (shows p c) 8 (omega arith))

-- a cell open in the picture is open
pub open_picture : (p : List ℕ) (c : ℕ) → shows (picture p) c ≤ 8 → shows p c ≤ 8
open_picture p c o = go (dec_le (shows p c) 8)
  where
    go : Dec (shows p c ≤ 8) → shows p c ≤ 8
    go (yes l) = l
    go (no n) = absurd (omega (arith, picture_shut p c (omega (arith, on_board (picture p) c (omega arith), picture_length p)) n))

-- as many are open
pub opened_picture : (p : List ℕ) → opened (picture p) ≡ opened p
opened_picture [] = refl
opened_picture (v ∷ p) = go (opened_picture p) (decided (leb v 8))
  where
    go : opened (picture p) ≡ opened p → Decided (leb v 8) → opened (picture (v ∷ p)) ≡ opened (v ∷ p)
    go ih (inl e) = rw (e, e, ih)
    go ih (inr e) = rw (e, ih)
