-- Cited by no public contract. What the functions that split one block are told and tell: marks change as a list of cells does, and a part is read by its
-- marks, from the last place to the first. Assumes nothing.
use Rattle.std.specs.Prelude.{◌≡◌, Bool, false, cond, List, [], ◌∷◌, map, reverse, ℕ, ◌-◌, length, get_or}
use Rattle.lists.specs.Lists.{range, keep, any, empty}
use Rattle.blocks.specs.Blocks.{BlockEquation, Block}
use Rattle.blocks.specs.BlockSets.{slot_cells}
use Rattle.blocks.specs.Places.{marked, Marks, cells_from}
use Rattle.blocks.specs.declared.BlockSet.{BlockSet}
use Rattle.blocks.specs.declared.Bounds.{Bounds}
use Rattle.chunks.specs.Chunks.{parts}

-- marks changed as a list of cells is by f, whichever list it was; without a new mark the list is unchanged
pub record Changed (f : List ℕ → List ℕ) (before after : List ℕ) (new : Bool) : Type 0 where
  pub whole : length after ≡ 1024
  pub marks : (cells : List ℕ) → Marks before cells → Marks after (f cells)
  pub same : (cells : List ℕ) → Marks before cells → new ≡ false → f cells ≡ cells

-- ---- a part by its marks

-- the marked cells, from the last to the first
unfoldable pub marked_cells : List ℕ → List ℕ → ℕ → ℕ → List ℕ
marked_cells marks cells first end = reverse (keep (marked marks) (cells_from cells first end))

-- the places of the equations that have a marked cell, from the last to the first
unfoldable pub marked_places : List ℕ → List ℕ → ℕ → ℕ → List ℕ
marked_places marks slots first end = reverse (keep (λ (e : ℕ). any (marked marks) (slot_cells slots e)) (range first (end - first)))

-- the part that the marks show, as a list: none where it has no equation
unfoldable pub marked_part : List ℕ → List ℕ → List ℕ → List ℕ → Bounds → List Block
marked_part marks cells slots rests bounds =
    cond (empty (marked_places marks slots bounds.first_equation bounds.end_equation)) []
    (record {
      cells = marked_cells marks cells bounds.first_cell bounds.end_cell;
      equations = map (λ (e : ℕ). record { cells = reverse (slot_cells slots e); rest = get_or rests e 0 }) (marked_places marks slots bounds.first_equation bounds.end_equation);
    }
    ∷ [])

-- the same in the arrays of a set
abbrev pub places_shown : List ℕ → BlockSet → Bounds → List ℕ
places_shown marks set bounds = marked_places marks set.slots bounds.first_equation bounds.end_equation

abbrev pub part_shown : List ℕ → BlockSet → Bounds → List Block
part_shown marks set bounds = marked_part marks set.cells set.slots set.rests bounds

-- all parts of a block
unfoldable pub all_parts : Block → List Block
all_parts b = parts b (length b.cells) b.cells

-- an equation without cells
abbrev pub bare : ℕ → BlockEquation
bare rest = record { cells = []; rest = rest }
