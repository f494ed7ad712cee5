-- `Unmet::set_group` meets its contract. The loop's invariant: what is still to be lowered of the needs and of the rooms can be, and gives what the whole list
-- gives. Rests on the laws of lowering. Assumes nothing.
use Prim.Native.Nat.{◌+◌}
use mathlib.Core.Path.{◌≡◌}
use lib.ListN.{drop}
use mathlib.Core.List.{◌∷◌}
use Rattle.lists.proofs.Arrays.{drop_more}
use Rattle.search.proofs.Lowering.{lowering_next}
use Rattle.search.proofs.Unmet.set_group.Goals as goal

pub loop-place-preserved : goal.loop-place-preserved
loop-place-preserved c =
    let k = c.loop-place.place-index in
    let items = c.as_slice-place-items.result.now in
    let more : drop k items ≡ c.wide-e.result ∷ drop (k + 1) items = rw c.wide-e.ensures (drop_more items k 0 c.loop-place-test.true) in
    record { needs = lowering_next c.loop-place.invariant.needs more; rooms = lowering_next c.loop-place.invariant.rooms more }
