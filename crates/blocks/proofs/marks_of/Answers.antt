-- `blocks::marks_of` meets its contract. The loop's invariant: the marks are those of the cells passed. Assumes nothing.
use native.Mathlib.Omega.{arith}
use borrow.Author.Rules.{rules}
use Rattle.std.proofs.lemmas.Grind.{common_steps}
use Rattle.blocks.proofs.MarkLaws.{marks_none, marks_next}
use Rattle.blocks.proofs.marks_of.Goals as goal

pub loop-cell-init : goal.loop-cell-init
loop-cell-init c = (search rules, marks_none 1024)

pub loop-cell-preserved : goal.loop-cell-preserved
loop-cell-preserved c = (search rules, marks_next _ _ _ _ (omega arith) c.wide.ensures (grind (arith, common_steps)) c.loop-cell.invariant.1)
