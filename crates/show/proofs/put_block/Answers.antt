-- `show::put_block` meets its contract: the writes are one text, and the parts of the arrays that they read are the block's cells and equations. Assumes nothing.
use Rattle.blocks.specs.Places.{cells_from}
use Rattle.text.proofs.Writing.{wrote_both}
use Rattle.show.specs.Blocks.{block_text}
use Rattle.show.proofs.put_block.Goals as goal

pub cells_of-requires : goal.cells_of-requires
cells_of-requires c = rw c.bounds_at-bounds.ensures (c.requires.cells_begin, c.requires.cells_end)

pub returns : goal.returns
unfolding block_text cells_from
returns c =
    wrote_both
    (wrote_both (wrote_both c.bytes.ensures (rw (c.cells_of.ensures, c.bounds_at-bounds.ensures) at c.put_numbers.ensures)) (rw c.bounds_at-bounds.ensures at c.put_equations.ensures))
    c.byte.ensures
