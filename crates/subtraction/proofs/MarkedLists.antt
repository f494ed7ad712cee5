-- The pairs of the subtraction rule on a block set, as the code puts them together: their marks give the rule's own lists and what is left, and the struct that
-- holds them tells what the rule says of the blocks (`Subtracts`). Rests on the laws of the marks and of where blocks stand in a set. Assumes nothing.
use mathlib.Core.Path.{◌≡◌, refl, ap, ◌∙◌}
use mathlib.Core.Bool.{true, ◌||◌}
use mathlib.Core.List.{List}
use Prim.Native.Nat.{ℕ, ◌≤◌, ◌<◌}
use native.Mathlib.Omega.{arith}
use lib.ListN.{length, get_or}
use Rattle.lists.specs.Lists.{range, bit, keep, any}
use Rattle.blocks.specs.Blocks.{BlockEquation, Block}
use Rattle.blocks.specs.BlockSets.{blocks_of, Whole}
use Rattle.blocks.specs.Places.{marked}
use Rattle.blocks.specs.declared.BlockSet.{BlockSet}
use Rattle.marks.specs.Marked.{Ready, cells_with, all_with}
use Rattle.marks.specs.CellLists.{cell_list}
use Rattle.marks.specs.declared.listing.CellList.{CellList}
use Rattle.direct.specs.Direct.{from_last}
use Rattle.subtraction.specs.Minus.{minus_mines, minus_safe}
use Rattle.subtraction.specs.Pairs.{Subtracts}
use Rattle.subtraction.proofs.ReadyBlocks.{mines_room, safe_room}
use Rattle.subtraction.proofs.SetPlaces.{any_places, joined_back, cells_at, equations_at}
use Rattle.subtraction.proofs.Pairs.{mines_of, safe_of, mines_in, safe_in}
use Rattle.subtraction.proofs.MinusMarks.{marked_mines, marked_safe, marks_left, equations_left}

module _ (s : BlockSet) (w : Whole s) (ready : Ready (blocks_of s)) (mines safe : List ℕ)
    (mines_told : (d : ℕ) → marked mines d ≡ any (mines_in s.slots s.rests s.equation_ends d) (range 0 s.blocks))
    (safe_told : (d : ℕ) → marked safe d ≡ any (safe_in s.slots s.rests s.equation_ends d) (range 0 s.blocks)) where
  abbrev bs : List Block
  bs = blocks_of s

  -- the marks are those of the pairs of all blocks
  mines_are : (d : ℕ) → marked mines d ≡ any (λ (q : Block). mines_of q.equations d) bs
  mines_are d =
      mines_told d
      ∙ any_places s w (λ (q : Block). mines_of q.equations d) (mines_in s.slots s.rests s.equation_ends d)
      (λ b h. ap (λ (es : List BlockEquation). mines_of es d) (equations_at s w b h))

  safe_are : (d : ℕ) → marked safe d ≡ any (λ (q : Block). safe_of q.equations d) bs
  safe_are d =
      safe_told d
      ∙ any_places s w (λ (q : Block). safe_of q.equations d) (safe_in s.slots s.rests s.equation_ends d)
      (λ b h. ap (λ (es : List BlockEquation). safe_of es d) (equations_at s w b h))

  -- so the marked cells are the rule's own lists
  mines_listed : all_with mines s.cells s.cell_ends s.blocks ≡ from_last minus_mines bs
  unfolding all_with cells_with
  mines_listed =
      joined_back s w (λ (q : Block). keep (marked mines) q.cells) _ (λ b h. ap (keep (marked mines)) (cells_at s w b h))
      ∙ marked_mines bs ready mines safe mines_are safe_are

  safe_listed : all_with safe s.cells s.cell_ends s.blocks ≡ from_last minus_safe bs
  unfolding all_with cells_with
  safe_listed =
      joined_back s w (λ (q : Block). keep (marked safe) q.cells) _ (λ b h. ap (keep (marked safe)) (cells_at s w b h))
      ∙ marked_safe bs ready mines safe mines_are safe_are

  -- there is room for them
  pub mines_fit : length (all_with mines s.cells s.cell_ends s.blocks) ≤ 1024
  mines_fit = omega (arith, ap length mines_listed, mines_room bs ready w.fits)

  pub safe_fit : length (all_with safe s.cells s.cell_ends s.blocks) ≤ 1024
  safe_fit = omega (arith, ap length safe_listed, safe_room bs ready w.fits)

  -- the struct that holds the lists and the marks tells what the rule says of the blocks
  pub subtracted : (known : List ℕ) → ((d : ℕ) → d < 1024 → get_or known d 0 ≡ bit (marked mines d || marked safe d))
      → (mine_list : CellList) → mine_list ≡ cell_list (all_with mines s.cells s.cell_ends s.blocks)
      → (safe_list : CellList) → safe_list ≡ cell_list (all_with safe s.cells s.cell_ends s.blocks)
      → Subtracts bs record { known = record { mines = mines; cells = known; subtracted = true }; lists = record { safe = safe_list; mines = mine_list } }
  subtracted known known_are mine_list mines_held safe_list safe_held = record {
    subtracted = refl;
    safe_are = safe_held ∙ ap cell_list safe_listed;
    mines_are = mines_held ∙ ap cell_list mines_listed;
    blocks_left = marks_left bs ready mines safe mines_are safe_are w.fits.on_board known known_are;
    equations_left = equations_left bs ready mines safe mines_are safe_are w.fits.on_board known known_are;
  }
