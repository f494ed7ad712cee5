-- `answer_from` meets its contract: the step is lent what is left of the input and of the buffer. Assumes nothing.
use Rattle.lists.proofs.LentParts.{part_is, front_back, behind_back}
use borrow.Author.Rules.{rules}
use Rattle.run.proofs.answer_from.Goals as goal

pub returns : goal.returns
returns c =
    let told = c.answer_one.ensures in
    let a = c.args in
    let fits = c.requires.1 in record { answers = rw (behind_back a.out.now a.len _ fits) (rw (part_is a.input.now a.at) at told.answers); step = rw (part_is a.input.now a.at, part_is a.out.now a.len) at told.step; out_unchanged = front_back a.out.now a.len c.answer_one.new.out fits }
