-- `enumeration::asking::Shown::ask_any` meets its contract: the search leaves none of one solution wanted where there is a row, and the values are then those of a row,
-- behind the settled ones. Rests on what `spend` and `note` ensure. Assumes nothing.
use mathlib.Core.Path.{◌∙◌}
use Rattle.enumeration.proofs.SearchAnswers.{answered_one, answered_none}
use Rattle.enumeration.proofs.asking.Shown.ask_any.Goals as goal

pub returns-then-left-eq0-clause-answered : goal.returns-then-left-eq0-clause-answered
returns-then-left-eq0-clause-answered c =
    let found = c.spend-left.ensures in
    answered_one c.args.grouped.now c.args.settled.now.begun.count c.args.order.now c.args.settled.now.values _ c.args.self.now c.spend-left.new.values
    found.kept (found.fact c.if-left-eq0.true) c.note.ensures.noted c.note.ensures.noted_2

pub returns-else-left-eq0-clause-answered : goal.returns-else-left-eq0-clause-answered
returns-else-left-eq0-clause-answered c =
    answered_none c.args.grouped.now c.args.settled.now.begun.count c.args.order.now c.args.settled.now.values _ c.args.self.now (λ e. c.if-left-eq0.false (c.spend-left.ensures.value ∙ e))
