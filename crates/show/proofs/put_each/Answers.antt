-- `show::put_each` meets its contract. The loop's invariant: the numbers up to the next are written, the mark before each. It rests on the laws of a loop that writes, of the
-- crate text. Assumes nothing.
use Rattle.text.proofs.Writing.{wrote_next}
use Rattle.show.specs.Cells.{marked_text}
use Rattle.show.proofs.put_each.Goals as goal

pub loop-number-preserved : goal.loop-number-preserved
loop-number-preserved c =
    wrote_next (marked_text c.args.mark) c.args.numbers.now c.loop-number.number-index 0 c.loop-number-test.true c.loop-number.invariant
    (rw c.from.ensures at c.put_marked.ensures)
