-- `record_length` meets its contract: where the head is there, its third and fourth byte are read, and a product of two bytes is small. Assumes nothing.
use Prim.Native.Nat.{◌*◌, ◌≤◌}
use native.Mathlib.Omega.{arith}
use Rattle.records.proofs.RecordKinds.{bytes_product, length_unknown, length_known}
use Rattle.records.proofs.record_length.Goals as goal
use Rattle.records.proofs.record_length.Goals.{After-from-2}

-- the two bytes make a product of at most 255 * 255
product : (c : After-from-2) → c.from.result * c.from-2.result ≤ 65025
product c = bytes_product _ _ (omega (arith, c.from.ensures, c.type_inv.head 2)) (omega (arith, c.from-2.ensures, c.type_inv.head 3))

pub returns-then-head-lt6 : goal.returns-then-head-lt6
returns-then-head-lt6 c = record { value = length_unknown _ c.if-head-lt6.true; upper_bound = omega arith }

pub overflow_mul-result : goal.overflow_mul-result
overflow_mul-result c = omega (arith, product c)

pub overflow_add-result : goal.overflow_add-result
overflow_add-result c = omega (arith, product c)

pub returns : goal.returns
returns c = let e = length_known c.args.head.now c.if-head-lt6.false in record { value = rw (c.from.ensures, c.from-2.ensures) e; upper_bound = omega (arith, product c) }
