-- `text::past_gaps` meets its contract. The loop's invariant: the same is read from place i on as from the first place on. The measure is what is left of the line. It rests
-- on the law of a gap in `Reading`. Assumes nothing.
use mathlib.Core.Path.{sym, ◌∙◌}
use Rattle.text.proofs.Reading.{word_gap}
use Rattle.text.proofs.past_gaps.Goals as goal

pub loop-i-preserved : goal.loop-i-preserved
loop-i-preserved c = word_gap _ c.loop-i.i c.loop-i-test.true (sym c.is_gap.ensures ∙ c.if-is_gap.true) ∙ c.loop-i.invariant
