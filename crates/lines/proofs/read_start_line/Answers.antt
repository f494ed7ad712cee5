-- `read_start_line` meets its contract: twice two numbers decide between a line that is unreadable and one whose cells are read on. Rests on the laws of a line by its first
-- numbers. Assumes nothing.
use mathlib.Core.Path.{sym, ◌∙◌}
use Rattle.lines.proofs.FirstNumbers.{start_missing, start_behind_missing, start_cells, start_unread}
use Rattle.lines.proofs.read_start_line.Goals as goal

pub returns-in_err-sides : goal.returns-in_err-sides
returns-in_err-sides c = let h = start_missing _ (sym c.pair_at.ensures ∙ c.in_err-sides.was) in cc

pub returns-in_err-start : goal.returns-in_err-start
returns-in_err-start c = let h = start_behind_missing _ _ (sym c.pair_at.ensures ∙ c.in_ok-sides.was) (sym c.pair_at-2.ensures ∙ c.in_err-start.was) in cc

pub returns-in_err-board : goal.returns-in_err-board
returns-in_err-board c =
    let h = start_unread _ _ (sym c.pair_at.ensures ∙ c.in_ok-sides.was) _ (sym c.pair_at-2.ensures ∙ c.in_ok-start.was) (sym c.read_cells.ensures ∙ c.in_err-board.was) in cc

pub returns : goal.returns
returns c = start_cells _ _ (sym c.pair_at.ensures ∙ c.in_ok-sides.was) _ (sym c.pair_at-2.ensures ∙ c.in_ok-start.was) _ (sym c.read_cells.ensures ∙ c.in_ok-board.was)
