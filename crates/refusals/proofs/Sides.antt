-- What tests 1 and 2 tell, as numbers: both sides are from the least to 32, so that there are at most 1024 cells, and a length is the number of
-- cells or leaves room for them. Each fact is one part of the test's "and". Assumes nothing.
use mathlib.Core.Path.{◌≡◌}
use mathlib.Core.Bool.{true, ◌&&◌}
use Prim.Native.Nat.{ℕ, ◌+◌, ◌*◌, ◌≤◌}
use native.Mathlib.Nat.{mul-le-mul}
use native.Mathlib.Omega.{arith}
use mir.Syntax.{w64}
use mir.Val.{Fits}
use lib.Dec.{leb}
use borrow.Author.Tests.{leb-true, eqb-true}
use Rattle.lists.proofs.Tests.{and_left, and_right}
use Rattle.grid.specs.Window.{Sized}
use Rattle.refusals.specs.Tests.{size_ok, length_ok, room_ok}

-- the number of a cell fits a machine word, whichever of the sides is which
module _ {x y : ℕ} (few : x ≤ 32) (few' : y ≤ 32) where
  pub product_fits : Fits w64 (x * y)
  product_fits = omega (arith, mul-le-mul few few')

  pub place_fits : {z : ℕ} → z ≤ 32 → Fits w64 (x * y + z)
  place_fits h = omega (arith, mul-le-mul few few')

module _ (least side : ℕ) (ok : (leb least side && leb side 32) ≡ true) where
  side_least : least ≤ side
  side_least = leb-true least side (and_left (leb least side) (leb side 32) ok)

  side_most : side ≤ 32
  side_most = leb-true side 32 (and_right (leb least side) (leb side 32) ok)

module _ (least rows columns : ℕ) (ok : size_ok least rows columns ≡ true) where
  rows_ok : (leb least rows && leb rows 32) ≡ true
  unfolding size_ok
  rows_ok = and_left (leb least rows && leb rows 32) (leb least columns && leb columns 32) ok

  columns_ok : (leb least columns && leb columns 32) ≡ true
  unfolding size_ok
  columns_ok = and_right (leb least rows && leb rows 32) (leb least columns && leb columns 32) ok

  pub size_ok_sized : Sized rows columns
  size_ok_sized = record { few_rows = side_most least rows rows_ok; few_columns = side_most least columns columns_ok }

  pub size_ok_rows : least ≤ rows
  size_ok_rows = side_least least rows rows_ok

  pub size_ok_columns : least ≤ columns
  size_ok_columns = side_least least columns columns_ok

-- ---- test 2: a length as a number

module _ (rows columns n : ℕ) where
  pub length_ok_is : length_ok rows columns n ≡ true → n ≡ rows * columns
  unfolding length_ok
  length_ok_is ok = eqb-true n (rows * columns) ok

  pub room_ok_fits : room_ok rows columns n ≡ true → rows * columns ≤ n
  unfolding room_ok
  room_ok_fits ok = leb-true (rows * columns) n ok
