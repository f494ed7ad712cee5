-- How many rows a table has room for: as many as its length has times the width of a row, rounded down. An allowance of one more is spent where the rows
-- are too many and not where they have room. A slice has less than 2^63 bytes, so there are fewer rows. Assumes nothing.
use mathlib.Core.Path.{◌≡◌}
use Prim.Native.Nat.{ℕ, ◌+◌, ◌-◌, ◌*◌, ◌/◌, ◌≤◌, ◌<◌}
use native.Mathlib.Nat.{le-div_iff_mul-le, div-le_self}
use native.Mathlib.Omega.{arith}
use lib.Dec.{leb, ltb}
use borrow.Author.Tests.{leb-true, le-leb, ltb-true, lt-ltb}
use Rattle.lists.proofs.Tests.{same_test}

module _ (room groups : ℕ) where
  pub most_small : room < 9223372036854775808 → room / groups < 9223372036854775808
  most_small h = omega (arith, div-le_self room groups)

  -- something is left of one more where the rows have room, and only there
  pub left_where_room : (rows : ℕ) → 0 < groups → ltb 0 (room / groups + 1 - rows) ≡ leb (rows * groups) room
  left_where_room rows some =
      same_test (ltb 0 (room / groups + 1 - rows)) (leb (rows * groups) room)
      (λ h. le-leb (rows * groups) room ((le-div_iff_mul-le some).0 (omega (arith, ltb-true 0 (room / groups + 1 - rows) h))))
      (λ h. let few : rows ≤ room / groups = (le-div_iff_mul-le some).1 (leb-true (rows * groups) room h) in
      lt-ltb 0 (room / groups + 1 - rows) (omega arith))
