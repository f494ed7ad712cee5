-- `room_ok` meets its contract: the product of two sides of at most 32 fits, and what is returned is the definition. Assumes nothing.
use mathlib.Core.Path.{refl}
use native.Mathlib.Omega.{arith}
use Rattle.grid.proofs.Places.{few_cells}
use Rattle.refusals.specs.Tests.{room_ok}
use Rattle.refusals.proofs.room_ok.Goals as goal

pub overflow_mul-result : goal.overflow_mul-result
overflow_mul-result c = omega (arith, few_cells c.requires)

pub returns : goal.returns
unfolding room_ok
returns c = refl
