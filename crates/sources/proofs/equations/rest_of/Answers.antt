-- `sources::equations::rest_of` meets its contract: the cell of its row and its column is the source itself, and at most eight of its neighbours are known
-- mines, so that the difference does not go below 0. Rests on the laws of `Remainders`. Assumes nothing.
use mathlib.Core.Path.{◌∙◌}
use native.Mathlib.Omega.{arith}
use Rattle.sources.proofs.Remainders.{counted_few, shown, rest_known}
use Rattle.sources.proofs.equations.rest_of.Goals as goal

pub overflow_cast-known : goal.overflow_cast-known
overflow_cast-known c = omega (arith, counted_few _ _ _ c.requires.c_bound.0 c.args.position.now c.requires.board.whole _ _ _ c.count_beside-known.ensures)

pub less_known-requires : goal.less_known-requires
less_known-requires c = (
  omega (arith, shown _ _ _ c.requires.c_bound.0 c.args.position.now c.requires.board.whole, c.requires.c_bound.1),
  counted_few _ _ _ c.requires.c_bound.0 c.args.position.now c.requires.board.whole _ _ _ c.count_beside-known.ensures,
)

pub returns : goal.returns
returns c = c.less_known.ensures ∙ rest_known _ _ _ c.requires.c_bound.0 c.args.position.now c.requires.board.whole _ _ c.count_beside-known.ensures
