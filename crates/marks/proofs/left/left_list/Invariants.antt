use mathlib.Core.Path.{◌≡◌}
use lib.Dec.{eqb}
use lib.ListN.{length, get_or, take}
use Rattle.lists.specs.Lists.{keep, pad}
use Rattle.marks.proofs.left.left_list.Given as goal

abbrev pub invariant-loop-cell : goal.invariant-loop-cell
invariant-loop-cell l =
    let kept = keep (λ c. eqb (get_or l.known c 0) 0) (take l.cell-index l.cell-items) in
    (l.cells ≡ pad 8 0 kept) × (l.len ≡ length kept)
