-- `marks::write_at_cells` meets its contract. The loop's invariant: the cells that are left, written into the position as it is now, give what the whole list
-- gives, written into the position at entry. Rests on WrittenCells. Assumes nothing.
use mathlib.Core.Path.{sym, ◌∙◌}
use native.Mathlib.Omega.{arith}
use lib.ListN.{length-set}
use Rattle.marks.proofs.WrittenCells.{written_more, written_all}
use Rattle.marks.proofs.write_at_cells.Goals as goal

pub loop-cell-preserved : goal.loop-cell-preserved
loop-cell-preserved c =
    let loop = c.loop-cell in
    (length-set loop.position c.wide.result c.args.value ∙ loop.invariant.0, sym (written_more c.args.value c.args.cells.now loop.cell-index c.wide.result c.loop-cell-test.true c.wide.ensures loop.position) ∙ loop.invariant.1)

pub returns : goal.returns
returns c = let loop = c.loop-cell in sym (written_all c.args.value c.args.cells.now loop.cell-index (omega arith) loop.position) ∙ loop.invariant.1
