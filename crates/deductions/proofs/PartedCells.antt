-- The cells between two places of an array are those up to a place between, and those from it on. Assumes nothing.
use mathlib.Core.Path.{◌≡◌}
use mathlib.Core.List.{List, ◌++◌, map, map-append}
use Prim.Native.Nat.{ℕ, ◌+◌, ◌-◌, ◌≤◌}
use native.Mathlib.Omega.{arith}
use lib.ListN.{get_or}
use Rattle.lists.specs.Lists.{range}
use Rattle.lists.proofs.PlacesAndRanges.{range_append}
use Rattle.blocks.specs.Places.{cells_from}

pub cells_parted : (cells : List ℕ) (first i end : ℕ) → first ≤ i → i ≤ end → cells_from cells first end ≡ cells_from cells first i ++ cells_from cells i end
unfolding cells_from
cells_parted cells first i end a b =
    let count : end - first ≡ (i - first) + (end - i) = omega arith in
    let from : first + (i - first) ≡ i = omega arith in
    rw (count, range_append first (i - first) (end - i), from) (map-append (λ (k : ℕ). get_or cells k 0) (range first (i - first)) (range i (end - i)))
