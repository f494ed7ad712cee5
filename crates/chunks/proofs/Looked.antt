-- An equation's cells as the code lists them: turned round, and looked at for a marked cell. Rests on the laws of marks. Assumes nothing.
use mathlib.Core.Path.{◌≡◌, sym, ap, ◌∙◌}
use mathlib.Core.Bool.{Bool, true, false, cond}
use mathlib.Core.List.{List, reverse}
use Prim.Native.Nat.{ℕ, ◌+◌, ◌≤◌, ◌<◌}
use native.Mathlib.Omega.{arith}
use lib.ListN.{length, take, length-reverse}
use Rattle.lists.specs.Lists.{any, add_new, pad}
use Rattle.lists.proofs.Arrays.{pad_take, length_pad}
use Rattle.grid.specs.Window.{listed}
use Rattle.grid.specs.declared.window.UpToEight.{UpToEight}
use Rattle.blocks.specs.Blocks.{BlockEquation}
use Rattle.blocks.specs.BlockSets.{slot_cells}
use Rattle.blocks.specs.Places.{marked, Marks, equations_from}
use Rattle.blocks.proofs.MarkLaws.{marks_meets}
use Rattle.blocks.proofs.Between.{equations_more, slots_eight, listed_cells}
use Rattle.chunks.specs.Chunks.{widened}

pub slots_turned : (slots : List ℕ) (e : ℕ) → length (pad 8 65535 (reverse (slot_cells slots e))) ≡ 8
slots_turned slots e = length_pad 8 65535 (reverse (slot_cells slots e)) (omega (arith, length-reverse (slot_cells slots e), slots_eight slots e))

module _ (near : UpToEight) (slots : List ℕ) (e : ℕ) (is : near ≡ listed (slot_cells slots e)) where
  -- turned round, as the code lists it
  module _ (back : UpToEight) (is_back : back ≡ listed (reverse (take near.len near.cells))) where
    pub back_few : back.len ≤ 8
    back_few = rw (is_back, (listed_cells near slots e is)) (omega (arith, length-reverse (slot_cells slots e), slots_eight slots e))

    pub back_cells : take back.len back.cells ≡ reverse (slot_cells slots e)
    back_cells = rw is_back (pad_take 8 0 (reverse (take near.len near.cells))) ∙ ap reverse (listed_cells near slots e is)

  -- ---- one equation looked at

  module _ (rests marks : List ℕ) (end : ℕ) (h : e < end) where
    pub look_pass : any (marked marks) (take near.len near.cells) ≡ false → (l : List ℕ) → Marks marks l
        → widened (equations_from slots rests e end) l ≡ widened (equations_from slots rests (e + 1) end) l
    look_pass t l m =
        ap (λ (es : List BlockEquation). widened es l) (equations_more slots rests e end h)
        ∙ ap (λ (x : Bool). widened (equations_from slots rests (e + 1) end) (cond x (add_new l (slot_cells slots e)) l))
        (sym (marks_meets m (slot_cells slots e)) ∙ ap (any (marked marks)) (sym (listed_cells near slots e is)) ∙ t)

    pub look_add : any (marked marks) (take near.len near.cells) ≡ true → (l : List ℕ) → Marks marks l
        → widened (equations_from slots rests e end) l ≡ widened (equations_from slots rests (e + 1) end) (add_new l (take near.len near.cells))
    look_add t l m =
        ap (λ (es : List BlockEquation). widened es l) (equations_more slots rests e end h)
        ∙ ap (λ (x : Bool). widened (equations_from slots rests (e + 1) end) (cond x (add_new l (slot_cells slots e)) l))
        (sym (marks_meets m (slot_cells slots e)) ∙ ap (any (marked marks)) (sym (listed_cells near slots e is)) ∙ t)
        ∙ ap (λ (k : List ℕ). widened (equations_from slots rests (e + 1) end) (add_new l k)) (sym (listed_cells near slots e is))
