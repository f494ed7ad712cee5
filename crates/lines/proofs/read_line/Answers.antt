-- `read_line` meets its contract: the first two numbers decide between a line that is unreadable and one whose cells are read on. Rests on the laws of a line by its first
-- numbers. Assumes nothing.
use mathlib.Core.Path.{sym, ◌∙◌}
use Rattle.lines.proofs.FirstNumbers.{line_missing, line_cells}
use Rattle.lines.proofs.read_line.Goals as goal

pub returns-in_err-sides : goal.returns-in_err-sides
returns-in_err-sides c = c.from_residual.ensures ∙ line_missing _ (sym c.pair_at.ensures ∙ c.in_err-sides.was)

pub returns : goal.returns
returns c = c.read_cells.ensures ∙ line_cells _ _ (sym c.pair_at.ensures ∙ c.in_ok-sides.was)
