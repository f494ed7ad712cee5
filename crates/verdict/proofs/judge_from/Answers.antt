-- `judge_from` meets its contract: the start is opened and the passes run; what is not open is shown closed, and the board is graded. Rests on FromStart and on the
-- contracts of the calls. Assumes nothing.
use borrow.Author.Rules.{rules}
use Rattle.verdict.proofs.FromStart.{passes_told}
use Rattle.verdict.proofs.judge_from.Goals as goal

pub returns : goal.returns
returns c =
    passes_told _ c.requires.board.0 c.args.start c.requires.start_in_bounds.0 _ c.run_passes-end.ensures.value c.run_passes-end.ensures.position_after c.run_passes-end.ensures.opened_in_after
    c.show_open-opened.ensures.0 c.show_open-opened.ensures.1 c.board_grade-grade.ensures
