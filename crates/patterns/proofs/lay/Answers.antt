-- `lay` meets its contract. The loops' invariants: the rows before the present one are laid out, and of it the columns before the present one. Rests on the laws of
-- `Filled`. Assumes nothing.
use native.Mathlib.Omega.{arith}
use Rattle.patterns.proofs.FilledRows.{filled_start, filled_laid}
use Rattle.patterns.proofs.lay.Goals as goal

pub loop-row-init : goal.loop-row-init
loop-row-init c = (rw c.requires.board_value (filled_start _ _ _), omega arith)

pub returns : goal.returns
returns c = filled_laid _ _ _ _ _ c.loop-row-test.false c.loop-row.invariant.0
