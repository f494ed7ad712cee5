-- `bbbv::count_bbbv` meets its contract: a board has at most 1024 cells, so that the position has room for them, and each is closed there. Rests on ClosedArrays of
-- the crate flood and on the contract of the call. Assumes nothing.
use mathlib.Core.Path.{sym}
use Rattle.flood.proofs.ClosedArrays.{few, front_long, front_closed, front_board}
use Rattle.bbbv.proofs.count_bbbv.Goals as goal

pub slice_bounds-position-end : goal.slice_bounds-position-end
slice_bounds-position-end c = few c.requires.board

pub slice_bounds-count_clicks-end : goal.slice_bounds-count_clicks-end
slice_bounds-count_clicks-end c = sym (front_long c.requires.board)

pub count_clicks-requires : goal.count_clicks-requires
count_clicks-requires c = record { board = (c.requires.board, front_board c.requires.board); accepted = c.requires.accepted; position_value = front_closed c.requires.board }
