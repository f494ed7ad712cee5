-- What is left of the equations between two places of the arrays: the places of those that stay, read forwards, the first and those behind it; and what the
-- code makes of the cells and the remainder at one place. Rests on the laws of what stands between two places. Assumes nothing.
use mathlib.Core.Path.{◌≡◌, ap, ◌∙◌}
use mathlib.Core.Bool.{Bool, true, false}
use mathlib.Core.List.{List, [], ◌∷◌, map, map-map}
use Prim.Native.Nat.{ℕ, ◌+◌, ◌-◌, ◌≤◌, ◌<◌}
use lib.Dec.{eqb}
use lib.ListN.{length, get_or, take, length-map}
use Rattle.lists.specs.Lists.{range, keep, count, joined, pad}
use Rattle.lists.proofs.Members.{range_more, range_none}
use Rattle.lists.proofs.Kept.{keep_map}
use Rattle.lists.proofs.Arrays.{length_pad, pad_take}
use Rattle.lists.proofs.Collected.{keep_few}
use Rattle.grid.specs.Window.{listed}
use Rattle.grid.specs.declared.window.UpToEight.{UpToEight}
use Rattle.blocks.specs.Blocks.{BlockEquation}
use Rattle.blocks.specs.BlockSets.{slots_of, slot_cells}
use Rattle.blocks.specs.Places.{marked, equations_from}
use Rattle.blocks.proofs.Between.{equation_of, slots_eight, listed_cells}
use Rattle.marks.specs.Marked.{left_equation, stays, left_equations}
use Rattle.lists.proofs.StoredAndKept.{keep_next, keep_pass}

module _ (subtracted : Bool) (mines known slots rests : List ℕ) where
  -- the equation at a place without known cells
  abbrev pub left_at : ℕ → BlockEquation
  left_at e = left_equation mines known (equation_of slots rests e)

  -- the places of those that stay
  unfoldable pub left_places : ℕ → ℕ → List ℕ
  left_places first end = keep (λ (e : ℕ). stays subtracted (left_at e)) (range first (end - first))

  -- ---- forwards

  module _ (e end : ℕ) where
    pub left_kept : e < end → stays subtracted (left_at e) ≡ true → left_places e end ≡ e ∷ left_places (e + 1) end
    unfolding left_places
    left_kept h t = keep_next (λ (x : ℕ). stays subtracted (left_at x)) e (range_more e end h) t

    pub left_passed : e < end → stays subtracted (left_at e) ≡ false → left_places e end ≡ left_places (e + 1) end
    unfolding left_places
    left_passed h t = keep_pass (λ (x : ℕ). stays subtracted (left_at x)) e (range_more e end h) t

    pub left_none : end ≤ e → left_places e end ≡ []
    unfolding left_places
    left_none h = ap (keep (λ (x : ℕ). stays subtracted (left_at x))) (range_none e end h)

  -- ---- the equations at these places

  module _ (first end : ℕ) where
    left_are : left_equations subtracted mines known (equations_from slots rests first end) ≡ map left_at (left_places first end)
    unfolding left_equations equations_from left_places
    left_are =
        ap (keep (stays subtracted)) (map-map (left_equation mines known) (equation_of slots rests) (range first (end - first)))
        ∙ keep_map left_at (stays subtracted) (range first (end - first))

    pub left_count : length (left_equations subtracted mines known (equations_from slots rests first end)) ≡ length (left_places first end)
    left_count = ap length left_are ∙ length-map (left_places first end) left_at

    pub left_slots_are : joined (map slots_of (left_equations subtracted mines known (equations_from slots rests first end))) ≡ joined (map (λ (e : ℕ). slots_of (left_at e)) (left_places first end))
    left_slots_are = ap joined (ap (map slots_of) left_are ∙ map-map slots_of left_at (left_places first end))

    pub left_rests_are : map (λ (e : BlockEquation). e.rest) (left_equations subtracted mines known (equations_from slots rests first end)) ≡ map (λ (e : ℕ). (left_at e).rest) (left_places first end)
    left_rests_are = ap (map (λ (e : BlockEquation). e.rest)) left_are ∙ map-map (λ (e : BlockEquation). e.rest) left_at (left_places first end)

  -- ---- one equation, as the code has it

  few : (e : ℕ) → length (left_at e).cells ≤ 8
  few e = keep_few (λ (c : ℕ). eqb (get_or known c 0) 0) (slot_cells slots e) (slots_eight slots e)

  pub left_eight : (e : ℕ) → length (slots_of (left_at e)) ≡ 8
  left_eight e = length_pad 8 65535 (left_at e).cells (few e)

  module _ (near : UpToEight) (e : ℕ) (is : near ≡ listed (slot_cells slots e)) where
    -- its remainder
    pub left_rest_is : (r : ℕ) → r ≡ get_or rests e 0 - count (marked mines) (take near.len near.cells) → r ≡ (left_at e).rest
    left_rest_is r w = w ∙ ap (λ (l : List ℕ). get_or rests e 0 - count (marked mines) l) (listed_cells near slots e is)

    -- its cells
    module _ (left : UpToEight) (w : left ≡ listed (keep (λ (c : ℕ). eqb (get_or known c 0) 0) (take near.len near.cells))) where
      left_list_is : left ≡ listed (left_at e).cells
      left_list_is = w ∙ ap (λ (l : List ℕ). listed (keep (λ (c : ℕ). eqb (get_or known c 0) 0) l)) (listed_cells near slots e is)

      pub left_list_few : left.len ≤ 8
      left_list_few = rw left_list_is (few e)

      pub left_list_slots : pad 8 65535 (take left.len left.cells) ≡ slots_of (left_at e)
      left_list_slots = rw left_list_is (ap (pad 8 65535) (pad_take 8 0 (left_at e).cells))
