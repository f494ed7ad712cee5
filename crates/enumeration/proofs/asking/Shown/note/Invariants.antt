use Rattle.enumeration.specs.Asking.{mine_in, free_in, Noted}
use Rattle.enumeration.proofs.asking.Shown.note.Given as goal

abbrev pub invariant-loop-g : goal.invariant-loop-g
invariant-loop-g l = Noted l.g (mine_in l.values) l.initial.self.mined l.self.mined × Noted l.g (free_in l.grouped.sizes l.values) l.initial.self.unfilled l.self.unfilled
