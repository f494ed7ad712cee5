-- `chunks::connected_with` meets its contract. A look that marks nothing new leaves the list as it was, and so do all that follow. Assumes nothing.
use mathlib.Core.Path.{refl, ap}
use mathlib.Core.Bool.{not}
use mathlib.Core.List.{[], ◌∷◌}
use borrow.Author.Tests.{not-true}
use Rattle.blocks.proofs.MarkLaws.{marks_first}
use Rattle.chunks.proofs.Marking.{connecting_still}
use Rattle.chunks.proofs.connected_with.Goals as goal

pub loop-look-init : goal.loop-look-init
loop-look-init c = record { list = c.args.c ∷ []; shown = marks_first 1024 c.args.c c.requires.c_bound; left = refl }

pub returns-then-not-widen : goal.returns-then-not-widen
returns-then-not-widen c = connecting_still c.loop-look.invariant c.widen.ensures (not-true _ (ap not c.if-not-widen.true))
