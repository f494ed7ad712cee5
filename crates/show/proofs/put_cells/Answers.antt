-- `show::put_cells` meets its contract. The loop's invariant: the bytes up to the next are written, a space before each. It rests on the laws of a loop that writes, of the
-- crate text. Assumes nothing.
use Rattle.text.proofs.Writing.{wrote_next, wrote_all}
use Rattle.show.specs.Cells.{marked_text, cells_text}
use Rattle.show.proofs.put_cells.Goals as goal

pub loop-cell-preserved : goal.loop-cell-preserved
loop-cell-preserved c =
    wrote_next (marked_text 32) c.args.cells.now c.loop-cell.cell-index 0 c.loop-cell-test.true c.loop-cell.invariant (rw c.from.ensures at c.put_marked.ensures)

pub returns : goal.returns
unfolding cells_text
returns c = wrote_all (marked_text 32) c.args.cells.now c.loop-cell.cell-index c.loop-cell-test.false c.loop-cell.invariant
