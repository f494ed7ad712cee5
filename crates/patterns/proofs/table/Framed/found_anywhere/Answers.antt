-- `found_anywhere` meets its contract. The loop's invariant: the anchors of the rows from the present one on answer for all. Assumes nothing.
use Rattle.patterns.specs.Shapes.{found_anywhere}
use Rattle.patterns.proofs.ListTests.{any_start, any_next, any_found, any_none}
use Rattle.patterns.proofs.table.Framed.found_anywhere.Goals as goal

pub loop-row-init : goal.loop-row-init
loop-row-init c = any_start _ _

pub returns-then-found_in_row : goal.returns-then-found_in_row
unfolding found_anywhere
returns-then-found_in_row c = any_found _ _ _ c.loop-row.invariant c.loop-row-test.true c.found_in_row.ensures c.if-found_in_row.true

pub loop-row-preserved : goal.loop-row-preserved
loop-row-preserved c = any_next _ _ _ c.loop-row.invariant c.loop-row-test.true c.found_in_row.ensures c.if-found_in_row.false

pub returns : goal.returns
unfolding found_anywhere
returns c = any_none _ _ _ c.loop-row.invariant c.loop-row-test.false
