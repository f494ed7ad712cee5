-- `passes::make_pass` meets its contract: the position keeps its length when mines are marked, and the cells of both lists are on the board. Rests on the contracts of
-- the calls. Assumes nothing.
use Rattle.marks.specs.CellLists.{list_in}
use Rattle.verdict.proofs.PassesOnBoard.{marked_board}
use Rattle.verdict.proofs.passes.make_pass.Goals as goal

pub write_at_cells-requires : goal.write_at_cells-requires
write_at_cells-requires c = rw (c.as_slice.ensures, c.requires.board.1.whole) c.requires.below.1.below

pub open_in_round-requires : goal.open_in_round-requires
open_in_round-requires c =
    let safe = c.requires.below.0 in
    record {
      board = (c.requires.board.0, marked_board (list_in c.args.found.lists.mines) c.requires.board.1 (rw c.as_slice.ensures at c.write_at_cells.ensures));
      accepted = c.requires.accepted;
      on_board = rw c.as_slice-2.ensures safe.below;
      opened_in_len = c.requires.opened_in_len;
    }
