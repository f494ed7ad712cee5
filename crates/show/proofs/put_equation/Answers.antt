-- `show::put_equation` meets its contract: the four writes are one text, and the list of eight that `slots_at` gives reads as the equation's cells. Assumes nothing.
use mathlib.Core.Path.{◌∙◌}
use Rattle.blocks.proofs.Between.{slots_eight, listed_cells}
use Rattle.text.proofs.Writing.{wrote_both}
use Rattle.show.specs.Blocks.{equation_text}
use Rattle.show.proofs.put_equation.Goals as goal

pub as_slice-requires : goal.as_slice-requires
as_slice-requires c = rw c.slots_at-cells.ensures (slots_eight c.args.set.now.slots c.args.e)

pub returns : goal.returns
unfolding equation_text
returns c =
    let e = c.as_slice.ensures ∙ listed_cells c.slots_at-cells.result c.args.set.now.slots c.args.e c.slots_at-cells.ensures in
    wrote_both (wrote_both c.bytes.ensures c.put_remainder.ensures) (wrote_both c.byte.ensures (rw e at c.put_numbers.ensures))
