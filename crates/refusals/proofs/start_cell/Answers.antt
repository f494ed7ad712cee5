-- `start_cell` meets its contract: a start on the board has a number below rows × columns, which fits. Assumes nothing.
use mathlib.Core.Path.{refl}
use native.Mathlib.Omega.{arith}
use Rattle.refusals.specs.Tests.{start_cell}
use Rattle.refusals.proofs.Sides.{product_fits, place_fits}
use Rattle.refusals.proofs.Starts.{start_on}
use Rattle.refusals.proofs.start_cell.Goals as goal

pub overflow_mul-result : goal.overflow_mul-result
overflow_mul-result c =
    let on = start_on _ _ _ _ c.requires.column_value in
    product_fits (omega (arith, c.requires.sized, on)) (omega (arith, c.requires.sized, on))

pub overflow_add-result : goal.overflow_add-result
overflow_add-result c =
    let on = start_on _ _ _ _ c.requires.column_value in
    place_fits (omega (arith, c.requires.sized, on)) (omega (arith, c.requires.sized, on)) (omega (arith, c.requires.sized, on))

pub returns : goal.returns
unfolding start_cell
returns c = refl
