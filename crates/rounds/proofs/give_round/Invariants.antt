use Rattle.rounds.proofs.GivenRounds.{Made, given}
use Rattle.rounds.proofs.give_round.Given as goal

abbrev pub invariant-loop-c : goal.invariant-loop-c
invariant-loop-c l = Made (given l.round l.position l.initial.opened_in) l.initial.opened_in l.opened_in l.c
