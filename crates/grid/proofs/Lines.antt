-- The ends of a window and a line folded back, case by case as the code finds them. Assumes nothing.
use Prim.Native.Nat.{ℕ, ◌+◌, ◌-◌, ◌≤◌, ◌<◌}
use mathlib.Core.Path.{◌≡◌, refl}
use mathlib.Core.Logic.{◌≢◌}
use mathlib.Core.Bool.{Bool, true, false}
use native.Mathlib.Omega.{arith}
use lib.Dec.{eqb}
use borrow.Author.Tests.{eq-eqb, ne_eqb, le-leb, lt-leb, lt-ltb, le-ltb}
use Rattle.grid.specs.Window.{low_at, high_at, folded}

module _ (edgeless : Bool) (size i : ℕ) where
  pub low_other : i ≢ 0 → i - 1 ≡ low_at edgeless size i
  low_other n = go edgeless
    where
      go : (e : Bool) → i - 1 ≡ low_at e size i
      go true = rw (ne_eqb i 0 n)
      go false = refl

  pub low_wrapped : i ≡ 0 → edgeless ≡ true → size - 1 ≡ low_at edgeless size i
  low_wrapped z e = rw (e, eq-eqb i 0 z)

  pub low_flat : i ≡ 0 → edgeless ≡ false → 0 ≡ low_at edgeless size i
  low_flat z e = rw e (omega arith)

  pub high_short : edgeless ≡ true → size < 3 → low_at edgeless size i ≡ high_at edgeless size i
  high_short e h = rw (e, lt-leb 3 size h)

  pub high_three : edgeless ≡ true → 3 ≤ size → low_at edgeless size i + 3 ≡ high_at edgeless size i
  high_three e h = rw (e, le-leb 3 size h)

  pub high_inside : edgeless ≡ false → i + 2 < size → i + 2 ≡ high_at edgeless size i
  high_inside e h = rw e (omega arith)

  pub high_last : edgeless ≡ false → size ≤ i + 2 → size ≡ high_at edgeless size i
  high_last e h = rw e (omega arith)

  -- a first line is below the size
  pub low_below : i < size → low_at edgeless size i < size
  low_below on = go edgeless
    where
      at : (z : Bool) → z ≡ eqb i 0 → low_at true size i < size
      at true e = rw (← e) (omega arith)
      at false e = rw (← e) (omega arith)

      go : (e : Bool) → low_at e size i < size
      go true = at (eqb i 0) refl
      go false = omega arith

module _ (size i : ℕ) where
  pub fold_below : i < size → i ≡ folded size i
  fold_below h = rw (lt-ltb i size h)

  pub fold_past : size ≤ i → i - size ≡ folded size i
  fold_past h = rw (le-ltb i size h)
