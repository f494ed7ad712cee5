-- `text::number_at` meets its contract: past the gaps the same is read as before them, and there a digit, another byte or the line's end stands. It rests on the laws of
-- what is read where a byte stands in `Reading`. Assumes nothing.
use mathlib.Core.Path.{sym, ◌∙◌}
use Rattle.text.proofs.Reading.{word_number, word_other, word_end}
use Rattle.text.proofs.number_at.Goals as goal

pub returns-then-line-start : goal.returns-then-line-start
returns-then-line-start c = word_end _ c.past_gaps-start.result c.if-line-start.true ∙ c.past_gaps-start.ensures.same

pub returns-then-is_ascii_digit : goal.returns-then-is_ascii_digit
returns-then-is_ascii_digit c =
    let p = c.past_gaps-start in
    let h = c.if-line-start.false in
    c.digits_at.ensures
    ∙ word_number _ p.result h (p.ensures.stops h) (sym c.is_ascii_digit.ensures.value ∙ c.if-is_ascii_digit.true)
    ∙ p.ensures.same

pub returns : goal.returns
returns c =
    let p = c.past_gaps-start in
    let h = c.if-line-start.false in
    word_other _ p.result h (p.ensures.stops h) (sym c.is_ascii_digit.ensures.value ∙ c.if-is_ascii_digit.false)
    ∙ p.ensures.same
