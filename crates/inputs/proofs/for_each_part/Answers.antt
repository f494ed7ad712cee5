-- `for_each_part` meets its contract: of no part it is told that the step takes some. Assumes nothing.
use Prim.Native.Nat.{zero}
use native.Mathlib.Omega.{arith}
use Rattle.std.specs.Prelude.{Ok, Err, Some, None}
use Rattle.inputs.proofs.for_each_part.Goals as goal

pub for_each_part_with_room-requires-clause-takes_some : goal.for_each_part_with_room-requires-clause-takes_some
for_each_part_with_room-requires-clause-takes_some g c f part ended (Ok (Some n)) after next called = λ above few. omega (arith, above)
for_each_part_with_room-requires-clause-takes_some g c f part ended (Ok None) after next called = tt
for_each_part_with_room-requires-clause-takes_some g c f part ended (Err e) after next called = tt
