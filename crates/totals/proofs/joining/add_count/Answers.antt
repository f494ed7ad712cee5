-- `totals::joining::add_count` meets its contract. The loop's invariant: the numbers below n that are t more than one of the set are marked. The measure is
-- what is left. Rests on the laws of sets in arrays. Assumes nothing.
use mathlib.Core.Path.{◌≡◌}
use mathlib.Core.Bool.{Bool, true, ◌&&◌}
use Prim.Native.Nat.{ℕ, ◌+◌, ◌-◌, ◌<◌}
use native.Mathlib.Omega.{arith}
use lib.Dec.{leb, eqb}
use lib.ListN.{length, get_or}
use borrow.Author.Rules.{rules}
use borrow.Author.Tests.{le-leb, eq-eqb, ne_eqb}
use Rattle.totals.proofs.SetsInArrays.{marked_next, marked_not_next}
use Rattle.totals.proofs.JoinedSets.{raised_none}
use Rattle.totals.proofs.joining.add_count.Goals as goal
use Rattle.totals.proofs.joining.add_count.Goals.{else-before-n-eq1, then-before-n-eq1}

pub loop-n-init : goal.loop-n-init
loop-n-init c = (search rules, search rules, raised_none c.args.before.now c.args.t c.args.after.now)

pub loop-n-preserved : goal.loop-n-preserved
loop-n-preserved c =
    let loop = c.loop-n in
    let test : ℕ → Bool = λ x. leb c.args.t x && eqb (get_or c.args.before.now (x - c.args.t) 0) 1 in
    let behind : leb c.args.t loop.n ≡ true = le-leb _ _ loop.invariant.0 in
    let long : length c.args.after.now ≡ 1025 = search rules in
    let room : loop.n < length loop.after = omega (arith, loop.invariant.2.whole, c.requires.1, c.loop-n-test.true) in (
      omega (arith, loop.invariant.0),
      omega (arith, c.loop-n-test.true),
      elim c.if-before-n-eq1.branch [
        | then-before-n-eq1 w ↦ rw w.after-is (marked_next test loop.n loop.invariant.2 room (rw behind (eq-eqb _ _ w.if-before-n-eq1.true)))
        | else-before-n-eq1 w ↦ rw w.after-is (marked_not_next test loop.n loop.invariant.2 (rw behind (ne_eqb _ _ w.if-before-n-eq1.false)))
      ],
    )

pub returns : goal.returns
returns c =
    let loop = c.loop-n in
    let all : loop.n ≡ c.args.rest + 1 = omega (arith, loop.invariant.1, c.loop-n-test.false) in
    rw all at loop.invariant.2
