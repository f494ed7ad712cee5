-- `export::put_counts` meets its contract. The loop's invariant: the first counts are laid over the front of the slice. Rests on `Returning`. Assumes nothing.
use mathlib.Core.Path.{refl, ap, ◌∙◌}
use mathlib.Core.List.{List}
use Prim.Native.Nat.{ℕ}
use lib.ListN.{get_or, set}
use Rattle.export.specs.Returned.{laid}
use Rattle.export.proofs.Returning.{put_next}
use Rattle.export.proofs.put_counts.Goals as goal

pub loop-at-init : goal.loop-at-init
unfolding laid
loop-at-init c = refl

pub loop-at-preserved : goal.loop-at-preserved
loop-at-preserved c =
    let values = c.args.values.now in
    let at = c.loop-at.at in
    c.put_count.ensures ∙ ap (λ (l : List ℕ). set l at (get_or values at 0)) c.loop-at.invariant ∙ put_next c.args.counts.now values at c.loop-at-test.true refl
