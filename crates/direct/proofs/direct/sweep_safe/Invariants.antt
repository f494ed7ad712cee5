use Rattle.blocks.specs.Places.{equations_from}
use Rattle.direct.specs.Direct.{sure_mines, sure_safe}
use Rattle.direct.proofs.Sweeps.{Sweeping, none_left, other_cells}
use Rattle.direct.proofs.direct.sweep_safe.Given as goal

abbrev pub invariant-loop-e : goal.invariant-loop-e
invariant-loop-e l =
    Sweeping (other_cells (sure_mines (equations_from l.slots l.rests 0 l.equations))) (none_left (sure_mines (equations_from l.slots l.rests 0 l.equations)))
    (sure_safe (equations_from l.slots l.rests 0 l.equations)) l.marks l.out l.n (equations_from l.slots l.rests 0 l.e)
