-- `text::digits_at` meets its contract. The loop's invariant: what the number so far and the bytes from place i on read as is what is to be read, and the number is at most 65535.
-- The measure is what is left of the line. It rests on the laws of a byte after a number, and of numbers cut down, in `Reading`. Assumes nothing.
use mathlib.Core.Path.{refl, sym, ◌∙◌}
use native.Mathlib.Omega.{arith}
use borrow.Author.Tests.{not-true, not-false}
use borrow.Author.Rules.{rules}
use Rattle.text.proofs.Reading.{number_digit, number_gap, number_other, number_end}
use mathlib.Core.Path.{ap}
use mathlib.Core.Bool.{not}
use Rattle.text.proofs.digits_at.Goals as goal

pub loop-i-init : goal.loop-i-init
loop-i-init c = (search rules, refl)

pub returns-then-is_gap : goal.returns-then-is_gap
returns-then-is_gap c =
    let l = c.loop-i in
    number_gap _ l.i c.loop-i-test.true l.number l.invariant.0
    (sym c.is_ascii_digit.ensures.value ∙ not-true c.is_ascii_digit.result (ap not c.if-not-is_ascii_digit.true))
    (sym c.is_gap.ensures ∙ c.if-is_gap.true)
    ∙ l.invariant.1

pub returns-else-is_gap : goal.returns-else-is_gap
returns-else-is_gap c =
    let l = c.loop-i in
    number_other _ l.i c.loop-i-test.true l.number l.invariant.0
    (sym c.is_ascii_digit.ensures.value ∙ not-true c.is_ascii_digit.result (ap not c.if-not-is_ascii_digit.true))
    (sym c.is_gap.ensures ∙ c.if-is_gap.false)
    ∙ l.invariant.1

pub with_digit-number-requires : goal.with_digit-number-requires
with_digit-number-requires c = (search rules, sym c.is_ascii_digit.ensures.value ∙ not-false c.is_ascii_digit.result (ap not c.if-not-is_ascii_digit.false))

pub loop-i-preserved : goal.loop-i-preserved
loop-i-preserved c =
    let l = c.loop-i in (
      omega (arith, c.with_digit-number.ensures),
      number_digit _ l.i c.loop-i-test.true l.number l.invariant.0 _
          (sym c.is_ascii_digit.ensures.value ∙ not-false c.is_ascii_digit.result (ap not c.if-not-is_ascii_digit.false))
          c.with_digit-number.ensures
          ∙ l.invariant.1,
    )

pub returns : goal.returns
returns c = number_end _ c.loop-i.i c.loop-i-test.false c.loop-i.number c.loop-i.invariant.0 ∙ c.loop-i.invariant.1
