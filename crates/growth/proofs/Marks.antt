-- A source's closed cells marked in an array, and another's held against the marks: the two share a cell where one of the other's is marked. Sources too
-- far apart share none. Rests on the laws of marks. Assumes nothing.
use mathlib.Core.Path.{◌≡◌, sym, ◌∙◌}
use mathlib.Core.Logic.{inl, inr}
use mathlib.Core.Bool.{Bool, false}
use mathlib.Core.List.{List}
use Prim.Native.Nat.{ℕ}
use Rattle.lists.specs.Lists.{any}
use Rattle.lists.proofs.Tests.{Decided, decided, clash}
use Rattle.lists.proofs.Unions.{meets_mutual}
use Rattle.grid.specs.Window.{listed}
use Rattle.grid.specs.declared.window.UpToEight.{UpToEight}
use Rattle.blocks.specs.BlockSets.{slot_cells}
use Rattle.blocks.specs.Places.{marked, Marks, cells_in}
use Rattle.blocks.proofs.MarkLaws.{marks_meets}
use Rattle.blocks.proofs.EightCells.{cells_listed}
use Rattle.sources.specs.Reading.{slots_meet, near_enough, Slots}

-- the list of d held against the marks of c
pub marks_tell : (slots : List ℕ) (c d : ℕ) {own other : UpToEight} (marks : List ℕ) {t : Bool} → own ≡ listed (slot_cells slots c)
    → other ≡ listed (slot_cells slots d) → Marks marks (cells_in own) → t ≡ any (marked marks) (cells_in other) → t ≡ slots_meet slots c d
marks_tell slots c d {own} {other} marks is_own is_other marked told =
    told ∙ marks_meets marked (cells_in other) ∙ meets_mutual (cells_in other) (cells_in own)
    ∙ rw (cells_listed (slot_cells slots c) is_own, cells_listed (slot_cells slots d) is_other)

-- cells too far apart share nothing
pub far_apart : {edgeless : Bool} {columns : ℕ} {slots : List ℕ} → Slots edgeless columns slots → (c d : ℕ) {t : Bool} → t ≡ near_enough edgeless columns c d → t ≡ false → slots_meet slots c d ≡ false
far_apart {edgeless} {columns} {slots} ok c d told h = go (decided (slots_meet slots c d))
  where
    go : Decided (slots_meet slots c d) → slots_meet slots c d ≡ false
    go (inl e) = clash (near_enough edgeless columns c d) (ok.reach c d e) (sym told ∙ h)
    go (inr e) = e
