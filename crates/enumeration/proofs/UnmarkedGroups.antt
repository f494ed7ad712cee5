-- The cells of the groups that are not marked, stored group after group: those of the first such group are stored, or a marked group is passed, and those of the
-- groups behind it are still to come. Rests on the laws of ranges, of what is kept of a list and of `Storing`. Assumes nothing.
use mathlib.Core.Path.{◌≡◌, ap}
use mathlib.Core.Bool.{Bool, not}
use mathlib.Core.List.{List, [], ◌∷◌, ◌++◌, map}
use Prim.Native.Nat.{ℕ, ◌+◌, ◌≤◌, ◌<◌}
use lib.Dec.{eqb}
use lib.ListN.{length, get_or}
use lib.Seq.{sets}
use borrow.Author.Tests.{eq-eqb, ne_eqb}
use Rattle.lists.specs.Lists.{keep, joined}
use Rattle.lists.proofs.Members.{range_more, range_none}
use Rattle.lists.proofs.Storing.{Storing, storing_pass}
use Rattle.lists.proofs.StoredAndKept.{keep_next, keep_pass, run_room, run_next, run_end}
use Rattle.enumeration.specs.Listing.{cells_in_group, unmarked_groups}

module _ (group_of marks cells : List ℕ) (groups : ℕ) where
  -- the cells of a group
  abbrev cells_of : ℕ → List ℕ
  cells_of = cells_in_group group_of cells

  abbrev unmarked : ℕ → Bool
  unmarked g = not (eqb (get_or marks g 0) 1)

  -- what is listed of the groups from g on
  abbrev from : ℕ → List ℕ
  from g = unmarked_groups group_of marks cells g groups

  module _ (g : ℕ) (h : g < groups) where
    next_listed : (get_or marks g 0 ≡ 1 → ⊥) → from g ≡ cells_of g ++ from (g + 1)
    unfolding unmarked_groups
    next_listed n = ap (λ (l : List ℕ). joined (map cells_of l)) (keep_next unmarked g (range_more g groups h) (rw (ne_eqb (get_or marks g 0) 1 n)))

    next_passed : get_or marks g 0 ≡ 1 → from g ≡ from (g + 1)
    unfolding unmarked_groups
    next_passed e = ap (λ (l : List ℕ). joined (map cells_of l)) (keep_pass unmarked g (range_more g groups h) (rw (eq-eqb (get_or marks g 0) 1 e)))

  none_left : (g : ℕ) → groups ≤ g → from g ≡ []
  unfolding unmarked_groups
  none_left g h = ap (λ (l : List ℕ). joined (map cells_of (keep unmarked l))) (range_none g groups h)

  -- ---- while they are stored

  module _ {n : ℕ} {before : List ℕ} {at : ℕ} {all out : List ℕ} {k g : ℕ} (s : Storing n 1 (λ (x : ℕ). x ∷ []) before at all out k (from g)) where
    module _ (h : g < groups) where
      module _ (not_marked : get_or marks g 0 ≡ 1 → ⊥) where
        -- there is room for the group's cells
        pub group_room : (m : ℕ) → at + length all ≤ m → k + length (cells_of g) ≤ m
        group_room = run_room s (cells_of g) (from (g + 1)) (next_listed g h not_marked)

        -- they are stored
        pub group_stored : (after : List ℕ) → after ≡ sets out k (cells_of g) → (next : ℕ) → next ≡ k + length (cells_of g)
            → Storing n 1 (λ (x : ℕ). x ∷ []) before at all after next (from (g + 1))
        group_stored = run_next s (cells_of g) (from (g + 1)) (next_listed g h not_marked)

      -- a marked group is passed
      pub group_passed : get_or marks g 0 ≡ 1 → Storing n 1 (λ (x : ℕ). x ∷ []) before at all out k (from (g + 1))
      group_passed e = storing_pass s (next_passed g h e)

    -- all groups are stored or passed
    pub groups_stored : groups ≤ g → (k ≡ at + length all) × (out ≡ sets before at all)
    groups_stored h = run_end s (none_left g h)
