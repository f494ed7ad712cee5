-- `keep_rest` meets its contract: the loop's invariant is that the first bytes are moved and those not passed are as they were. Assumes nothing.
use mathlib.Core.Path.{◌≡◌, refl}
use Prim.Native.Nat.{◌≤◌, ◌-◌}
use native.Mathlib.Omega.{arith}
use Rattle.run.proofs.Moved.{MovedUpTo, moved_none, moved_next, moved_all}
use borrow.Author.Rules.{rules}
use Rattle.run.proofs.keep_rest.Goals as goal

pub returns-then-read-eq0 : goal.returns-then-read-eq0
returns-then-read-eq0 c = (refl, rw c.if-read-eq0.true refl)

pub loop-i-init : goal.loop-i-init
loop-i-init c = (omega arith, moved_none _ _)

pub overflow_add-input : goal.overflow_add-input
overflow_add-input c = omega (arith, c.requires, c.well_formed.0)

pub bounds-input-read : goal.bounds-input-read
bounds-input-read c = omega (arith, c.requires, c.loop-i.invariant.1.same_long)

pub bounds-input-i : goal.bounds-input-i
bounds-input-i c = omega (arith, c.requires, c.loop-i.invariant.1.same_long)

pub loop-i-preserved : goal.loop-i-preserved
loop-i-preserved c = (omega arith, moved_next _ _ _ _ (omega (arith, c.requires, c.loop-i.invariant.1.same_long)) c.loop-i.invariant.1)

pub shape_of-input : goal.shape_of-input
shape_of-input c = c.loop-i.invariant.1.same_long

pub returns : goal.returns
returns c =
    let all : c.loop-i.i ≡ c.args.end - c.args.read = omega (arith, c.loop-i.invariant.0, c.loop-i-test.false) in
    (refl, moved_all _ _ _ _ (omega (arith, c.requires)) (rw all at c.loop-i.invariant.1))
