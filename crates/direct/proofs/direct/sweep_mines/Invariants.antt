use Rattle.blocks.specs.Blocks.{BlockEquation}
use Rattle.blocks.specs.Places.{equations_from}
use Rattle.direct.specs.Direct.{full, sure_mines}
use Rattle.direct.proofs.Sweeps.{Sweeping}
use Rattle.direct.proofs.direct.sweep_mines.Given as goal

abbrev pub invariant-loop-e : goal.invariant-loop-e
invariant-loop-e l =
    Sweeping (λ (x : BlockEquation). x.cells) full (sure_mines (equations_from l.slots l.rests 0 l.equations)) l.marks l.out l.n (equations_from l.slots l.rests 0 l.e)
