-- `subtraction::subtract_blocks` meets its contract. The loop's invariant: the marks, with what the pairs of the blocks from b on mark, are the marks at the
-- start with what the pairs of all blocks mark. The measure is what is left. Rests on the laws of marks so far. Assumes nothing.
use mathlib.Core.Path.{◌≡◌, ◌∙◌}
use Prim.Native.Nat.{◌-◌}
use native.Mathlib.Omega.{arith}
use Rattle.lists.proofs.Members.{range_more, range_none}
use Rattle.subtraction.proofs.MarkedSoFar.{marked_start, marked_next, marked_end}
use Rattle.subtraction.proofs.MinusMarks.{none_marked}
use Rattle.subtraction.proofs.subtract_blocks.Goals as goal

pub loop-b-init : goal.loop-b-init
loop-b-init c = let all : c.args.set.now.blocks - 0 ≡ c.args.set.now.blocks = omega arith in rw all (marked_start _ _ _, marked_start _ _ _)

pub subtract_pairs-requires : goal.subtract_pairs-requires
subtract_pairs-requires c = rw c.bounds_at.ensures (c.requires.slots c.loop-b.b c.loop-b-test.true)

pub loop-b-preserved : goal.loop-b-preserved
loop-b-preserved c =
    let loop = c.loop-b in
    let more = range_more loop.b c.args.set.now.blocks c.loop-b-test.true in
    let bounds = c.bounds_at.ensures in
    let marks = c.subtract_pairs.ensures in
    (marked_next _ _ _ _ _ loop.invariant.0 _ _ more _ (λ d. rw bounds at (marks.mines d)), marked_next _ _ _ _ _ loop.invariant.1 _ _ more _ (λ d. rw bounds at (marks.safe d)))

pub returns : goal.returns
returns c =
    let loop = c.loop-b in
    let none = range_none loop.b c.args.set.now.blocks c.loop-b-test.false in
    record {
      mines = λ d. marked_end _ _ _ _ _ loop.invariant.0 none d ∙ rw (none_marked 1024 d);
      safe = λ d. marked_end _ _ _ _ _ loop.invariant.1 none d ∙ rw (none_marked 1024 d);
    }
