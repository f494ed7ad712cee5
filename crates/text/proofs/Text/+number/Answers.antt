-- `Text::number`, which calls itself, meets its contract: what stands before the last digit is written by the call, and the last digit behind it. The measure is the
-- number, which a division by ten makes smaller. It rests on the law of the last digit in `Decimals`. Assumes nothing.
use native.Mathlib.Omega.{arith}
use Rattle.text.proofs.Writing.{wrote_both}
use Rattle.text.proofs.Decimals.{decimal_digit, decimal_more}
use Rattle.text.proofs.Text.+number.Goals as goal

pub returns-then-number-lt10 : goal.returns-then-number-lt10
returns-then-number-lt10 t c = rw (decimal_digit c.args.number c.if-number-lt10.true) c.byte.ensures

pub returns : goal.returns
returns t c = rw (decimal_more c.args.number c.if-number-lt10.false (omega arith)) (wrote_both c.number.ensures c.byte-2.ensures)
