-- `passes::open_start` meets its contract: the start's cell is on the board, and what it opens is given the round 0. Rests on FromStart and on the contract of
-- `open_in_round`. Assumes nothing.
use mathlib.Core.List.{[]}
use native.Mathlib.Omega.{arith}
use Rattle.rounds.proofs.GivenRounds.{rounds_on_board}
use Rattle.verdict.proofs.FromStart.{start_small, start_below, first_given}
use Rattle.verdict.proofs.passes.open_start.Goals as goal

pub overflow_cast-from : goal.overflow_cast-from
overflow_cast-from c = omega (arith, start_small c.requires.board.0 c.args.start c.requires.start_in_bounds)

pub open_in_round-requires : goal.open_in_round-requires
open_in_round-requires c = let board = c.requires.board.0 in record { board = c.requires.board; accepted = c.requires.accepted; on_board = start_below board c.args.start c.requires.start_in_bounds; opened_in_len = rounds_on_board board [] c.requires.opened_in_value }

pub returns : goal.returns
returns c = record { position_after = c.open_in_round.ensures.position_after; opened_in_after = first_given _ _ c.requires.opened_in_value c.open_in_round.ensures.opened_in_after }
