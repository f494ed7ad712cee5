-- `grid::window::low` meets its contract. Assumes nothing.
use Rattle.grid.proofs.Lines.{low_other, low_wrapped, low_flat}
use Rattle.grid.proofs.window.low.Goals as goal

pub returns-then-i-ne0 : goal.returns-then-i-ne0
returns-then-i-ne0 c = let a = c.args in low_other a.edgeless a.size a.i c.if-i-ne0.true

pub returns-then-edgeless : goal.returns-then-edgeless
returns-then-edgeless c = low_wrapped _ _ _ c.if-i-ne0.false c.if-edgeless.true

pub returns-else-edgeless : goal.returns-else-edgeless
returns-else-edgeless c = low_flat _ _ _ c.if-i-ne0.false c.if-edgeless.false
