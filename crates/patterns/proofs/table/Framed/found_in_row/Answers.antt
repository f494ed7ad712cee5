-- `found_in_row` meets its contract. The loop's invariant: the anchors from the present column on answer for the row. That the table's links are right, and that it
-- lists the shapes, is computed. Assumes nothing.
use mathlib.Core.Path.{refl}
use Rattle.patterns.specs.Walk.{links_right}
use Rattle.patterns.proofs.ListTests.{any_start, any_next, any_found, any_none}
use Rattle.patterns.proofs.table.Framed.found_in_row.Goals as goal

pub loop-column-init : goal.loop-column-init
loop-column-init c = any_start _ _

pub found_at-requires-clause-links : goal.found_at-requires-clause-links
unfolding links_right
found_at-requires-clause-links c = refl

pub returns-then-found_at : goal.returns-then-found_at
returns-then-found_at c = any_found _ _ _ c.loop-column.invariant c.loop-column-test.true c.found_at.ensures c.if-found_at.true

pub loop-column-preserved : goal.loop-column-preserved
loop-column-preserved c = any_next _ _ _ c.loop-column.invariant c.loop-column-test.true c.found_at.ensures c.if-found_at.false

pub returns : goal.returns
returns c = any_none _ _ _ c.loop-column.invariant c.loop-column-test.false
