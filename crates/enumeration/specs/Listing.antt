-- Cited by no public contract. What the functions that list groups tell: the cells of a group, and those of the groups that are not marked, group after group.
-- Assumes nothing.
use Rattle.std.specs.Prelude.{◌≡◌, not, List, map, ℕ, ◌+◌, ◌-◌, eqb, length, get_or}
use Rattle.std.proofs.lemmas.List.Edits.{sets}
use Rattle.lists.specs.Lists.{range, keep, joined}
use Rattle.marks.specs.declared.listing.CellList.{CellList}

-- given each cell's group: those of some cells that are of the group g
abbrev pub cells_in_group : List ℕ → List ℕ → ℕ → List ℕ
cells_in_group group_of cells g = keep (λ (c : ℕ). eqb (get_or group_of c 0) g) cells

-- the cells of the groups from g on that are not marked
unfoldable pub unmarked_groups : List ℕ → List ℕ → List ℕ → ℕ → ℕ → List ℕ
unmarked_groups group_of marks cells g groups =
    joined (map (cells_in_group group_of cells) (keep (λ (x : ℕ). not (eqb (get_or marks x 0) 1)) (range g (groups - g))))

-- a list has some cells more, behind those that it had
pub record ListedBehind (more : List ℕ) (before after : CellList) : Type 0 where
  pub count : after.count ≡ before.count + length more
  pub cells : after.cells ≡ sets before.cells before.count more
