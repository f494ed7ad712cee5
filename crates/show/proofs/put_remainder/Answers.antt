-- `show::put_remainder` meets its contract: below 8 a sign and what is missing, from 8 on what is more. Assumes nothing.
use borrow.Author.Tests.{lt-ltb, le-ltb}
use Rattle.show.specs.Blocks.{remainder_text}
use Rattle.show.proofs.put_remainder.Goals as goal

pub returns-then-number-lt8 : goal.returns-then-number-lt8
unfolding remainder_text
returns-then-number-lt8 c = rw (← c.from-number.ensures, lt-ltb _ 8 c.if-number-lt8.true) c.put_marked.ensures

pub returns : goal.returns
unfolding remainder_text
returns c = rw (← c.from-number.ensures, le-ltb _ 8 c.if-number-lt8.false) c.number.ensures
