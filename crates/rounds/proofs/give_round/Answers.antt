-- `give_round` meets its contract. The loop's invariant: the round is given to the cells before c (`Made`). Rests on GivenRounds. Assumes nothing.
use native.Mathlib.Omega.{arith}
use Rattle.rounds.proofs.GivenRounds.{all_given}
use Rattle.rounds.proofs.give_round.Goals as goal

pub returns : goal.returns
returns c = all_given c.args.round c.args.position.now c.args.opened_in.now c.loop-c.invariant (omega (arith, c.loop-c-test.false, c.requires))
