-- Cells listed by their marks: between two places the first, and those behind it; and of all blocks the last block's, then those of the blocks before it. Rests
-- on the laws of what stands between two places. Assumes nothing.
use mathlib.Core.Path.{◌≡◌, sym, ap, ◌∙◌}
use mathlib.Core.Bool.{true, false}
use mathlib.Core.List.{List, [], ◌∷◌, ◌++◌, map, reverse}
use Prim.Native.Nat.{ℕ, ◌+◌, ◌-◌, ◌≤◌, ◌<◌}
use native.Mathlib.Omega.{arith}
use lib.Dec.{eqb}
use lib.ListN.{get_or}
use Rattle.lists.specs.Lists.{range, keep, joined}
use Rattle.lists.proofs.Backwards.{range_turned}
use Rattle.blocks.specs.BlockSets.{begin_at}
use Rattle.blocks.specs.Places.{cells_from}
use Rattle.blocks.proofs.Between.{cells_more, cells_none}
use Rattle.marks.specs.Marked.{cells_with, all_with}
use Rattle.lists.proofs.StoredAndKept.{keep_next, keep_pass}

-- ---- between two places

module _ (marks : List ℕ) (mark : ℕ) (cells : List ℕ) (i end : ℕ) where
  module _ (x : ℕ) (at : x ≡ get_or cells i 0) (h : i < end) where
    more : cells_from cells i end ≡ x ∷ cells_from cells (i + 1) end
    more = cells_more cells i end h ∙ ap (λ (y : ℕ). y ∷ cells_from cells (i + 1) end) (sym at)

    -- the cell has the mark
    pub listed_kept : eqb (get_or marks x 0) mark ≡ true → cells_with marks mark cells i end ≡ x ∷ cells_with marks mark cells (i + 1) end
    unfolding cells_with
    listed_kept t = keep_next (λ (c : ℕ). eqb (get_or marks c 0) mark) x more t

    -- it has not
    pub listed_passed : eqb (get_or marks x 0) mark ≡ false → cells_with marks mark cells i end ≡ cells_with marks mark cells (i + 1) end
    unfolding cells_with
    listed_passed t = keep_pass (λ (c : ℕ). eqb (get_or marks c 0) mark) x more t

  pub listed_none : end ≤ i → cells_with marks mark cells i end ≡ []
  unfolding cells_with
  listed_none h = ap (keep (λ (c : ℕ). eqb (get_or marks c 0) mark)) (cells_none cells i end h)

-- ---- of all blocks, from the last

module _ (marks cells ends : List ℕ) (b : ℕ) where
  -- the last block's come first
  pub all_last : 0 < b → all_with marks cells ends b ≡ cells_with marks 1 cells (begin_at ends (b - 1)) (get_or ends (b - 1) 0) ++ all_with marks cells ends (b - 1)
  unfolding all_with
  all_last h = ap (λ (l : List ℕ). joined (map (λ (k : ℕ). cells_with marks 1 cells (begin_at ends k) (get_or ends k 0)) l)) (range_turned b h)

  pub all_none : b ≤ 0 → all_with marks cells ends b ≡ []
  unfolding all_with
  all_none h =
      let none : b ≡ 0 = omega arith in
      ap (λ (n : ℕ). joined (map (λ (k : ℕ). cells_with marks 1 cells (begin_at ends k) (get_or ends k 0)) (reverse (range 0 n)))) none
