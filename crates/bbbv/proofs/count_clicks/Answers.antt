-- `bbbv::count_clicks` meets its contract: once all zeros are flooded, the safe cells that are closed are the lone ones. Rests on OnBoard and on the contracts of the
-- calls. Assumes nothing.
use native.Mathlib.Omega.{arith}
use Rattle.bbbv.proofs.OnBoard.{counts_small, counted_bbbv}
use Rattle.bbbv.proofs.count_clicks.Goals as goal

pub overflow_add-result : goal.overflow_add-result
overflow_add-result c = omega (arith, counts_small _ _ _ c.requires.board.0 c.count_openings-openings.ensures.value c.count_closed_safe.ensures)

pub returns : goal.returns
returns c = rw (c.count_openings-openings.ensures.value, c.count_closed_safe.ensures) (counted_bbbv _ _ _ _ c.requires.board.0 c.requires.accepted c.count_openings-openings.ensures.position_after)
