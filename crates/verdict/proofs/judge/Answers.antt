-- `judge` meets its contract: a board has at most 1024 cells, so that its position has room for them, and each is closed there; the slice of rounds has as many.
-- Rests on ClosedArrays of the crate flood and on the contracts of the calls. Assumes nothing.
use mathlib.Core.Path.{sym, ap, ◌∙◌}
use mathlib.Core.List.{[]}
use Rattle.rounds.specs.Rounds.{rounds_of}
use Rattle.flood.proofs.ClosedArrays.{few, front_long, front_closed, front_board}
use Rattle.verdict.proofs.judge.Goals as goal

pub slice_bounds-position-end : goal.slice_bounds-position-end
slice_bounds-position-end c = few c.requires.board.0

pub slice_bounds-judge_from-end : goal.slice_bounds-judge_from-end
slice_bounds-judge_from-end c = sym (front_long c.requires.board.0)

pub judge_from-requires : goal.judge_from-requires
judge_from-requires c =
    let on = c.requires.start_in_bounds in
    record {
      board = (c.requires.board.0, front_board c.requires.board.0, c.requires.board.1);
      accepted = c.requires.accepted;
      start_in_bounds = (on.0, on.1, front_closed c.requires.board.0);
      opened_in_value = c.no_rounds.ensures ∙ ap (rounds_of []) (c.requires.opened_in_len ∙ sym c.requires.board.0.whole);
    }
