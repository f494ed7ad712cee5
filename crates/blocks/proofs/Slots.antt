-- An equation's cells in eight slots. Slots hold 65535 behind the cells, which are all below it, so the cells are the numbers before the first 65535. The
-- equations' slots are lists of equal length, one after another: the laws of joined lists say where each stands. Assumes nothing.
use mathlib.Core.Path.{◌≡◌, refl, sym, ap, ◌∙◌}
use mathlib.Core.Logic.{◌≢◌}
use mathlib.Core.Bool.{true, ◌&&◌}
use mathlib.Core.List.{List, [], ◌∷◌, ◌++◌, map}
use Prim.Native.Nat.{ℕ, zero, suc, ◌+◌, ◌-◌, ◌*◌, ◌≤◌, ◌<◌}
use native.Mathlib.Omega.{arith}
use lib.Dec.{leb, ltb, eqb}
use lib.ListN.{length, get_or, replicate, get_or-append}
use lib.Seq.{sets}
use borrow.Author.Tests.{ltb-true, lt-ltb, leb-true, eq-eqb, ne_eqb}
use Rattle.lists.specs.Lists.{all, joined, pad}
use Rattle.lists.proofs.Tests.{and_left, and_right}
use Rattle.lists.proofs.All.{all_head, all_tail, all_at, all_implied}
use Rattle.lists.proofs.Arrays.{length_pad, pad_read}
use Rattle.lists.proofs.Elements.{get_d_any, not_default}
use Rattle.lists.proofs.Joined.{slice_append, joined_push, length_joined, equal_slice, equal_read, pad_sets}
use Rattle.blocks.specs.Blocks.{BlockEquation}
use Rattle.blocks.specs.BlockSets.{slots_of, before, slot_cells, small_equation}

-- ---- the numbers before a filler

-- numbers below the filler are all before it
pub before_pad : (n x : ℕ) (l : List ℕ) → all (λ c. ltb c x) l ≡ true → before x (pad n x l) ≡ l
before_pad n x l h = go l (n - length l) h
  where
    go : (k : List ℕ) (m : ℕ) → all (λ c. ltb c x) k ≡ true → before x (k ++ replicate m x) ≡ k
    go [] zero h = refl
    go [] (suc m) h = rw (eq-eqb x x refl)
    go (c ∷ k) m h =
        let u : c < x = ltb-true c x (all_head (λ c. ltb c x) c k h) in
        rw (ne_eqb c x (λ w. omega arith), go k m (all_tail (λ c. ltb c x) c k h))

-- a place at which they read the filler is past their end
pub filler_past_end : (x : ℕ) (l : List ℕ) (k : ℕ) → all (λ c. ltb c x) l ≡ true → get_or l k x ≡ x → length l ≤ k
filler_past_end x [] k h w = omega arith
filler_past_end x (c ∷ l) zero h w = absurd (omega (arith, ltb-true c x (all_head (λ c. ltb c x) c l h)))
filler_past_end x (c ∷ l) (suc k) h w = omega (arith, filler_past_end x l k (all_tail (λ c. ltb c x) c l h) w)

-- ---- small equations

pub small_length : (e : BlockEquation) → small_equation e ≡ true → length e.cells ≤ 8
small_length e h = leb-true (length e.cells) 8 (and_left (leb (length e.cells) 8) (all (λ c. ltb c 1024) e.cells && ltb e.rest 256) h)

-- none of the cells is the filler
pub small_cells : (e : BlockEquation) → small_equation e ≡ true → all (λ c. ltb c 65535) e.cells ≡ true
small_cells e h =
    all_implied (λ c. ltb c 1024) (λ c. ltb c 65535) e.cells (λ c w. lt-ltb c 65535 (omega (arith, ltb-true c 1024 w)))
    (and_left (all (λ c. ltb c 1024) e.cells) (ltb e.rest 256)
    (and_right (leb (length e.cells) 8) (all (λ c. ltb c 1024) e.cells && ltb e.rest 256) h))

pub length_slots : (e : BlockEquation) → length e.cells ≤ 8 → length (slots_of e) ≡ 8
length_slots e h = length_pad 8 65535 e.cells h

slots_equal : (es : List BlockEquation) → all small_equation es ≡ true → all (λ e. eqb (length (slots_of e)) 8) es ≡ true
slots_equal es h =
    all_implied small_equation (λ e. eqb (length (slots_of e)) 8) es (λ e w. eq-eqb (length (slots_of e)) 8 (length_slots e (small_length e w))) h

-- ---- the slots of all equations

-- the slots of some equations as the array has them
abbrev pub all_slots : List BlockEquation → List ℕ
all_slots es = pad 8192 65535 (joined (map slots_of es))

module _ (es : List BlockEquation) (small : all small_equation es ≡ true) where
  pub length_all_slots : length (joined (map slots_of es)) ≡ length es * 8
  length_all_slots = length_joined slots_of 8 es (slots_equal es small)

  -- one equation more
  pub put_slots_push : (e : BlockEquation) → length es < 1024 → length e.cells ≤ 8
      → sets (all_slots es) (length es * 8) (slots_of e) ≡ all_slots (es ++ (e ∷ []))
  put_slots_push e h k =
      ap (λ (i : ℕ). sets (all_slots es) i (slots_of e)) (sym length_all_slots)
      ∙ pad_sets 8192 65535 (joined (map slots_of es)) (slots_of e) (omega (arith, length_all_slots, length_slots e k))
      ∙ ap (pad 8192 65535) (sym (joined_push slots_of es e))

  module _ (e : ℕ) (d : BlockEquation) (h : e < length es) where
    cells_below : all (λ c. ltb c 65535) (get_or es e d).cells ≡ true
    cells_below = small_cells (get_or es e d) (all_at small_equation es e d small h)

    -- the cells in the slots at place e are those of the equation
    pub slot_cells_lem : slot_cells (all_slots es) e ≡ (get_or es e d).cells
    unfolding slot_cells
    slot_cells_lem =
        let j = joined (map slots_of es) in
        let l : length j ≡ length es * 8 = length_all_slots in
        ap (before 65535) (slice_append j (replicate (8192 - length j) 65535) (e * 8) 8 (omega arith) ∙ equal_slice slots_of 8 es e d (slots_equal es small) h)
        ∙ before_pad 8 65535 (get_or es e d).cells cells_below

    -- one slot is a cell, or the filler behind the last
    pub slot_read : (k z : ℕ) → k < 8 → get_or (all_slots es) (e * 8 + k) z ≡ get_or (get_or es e d).cells k 65535
    slot_read k z u =
        let j = joined (map slots_of es) in
        let l : length j ≡ length es * 8 = length_all_slots in
        get_or-append j (replicate (8192 - length j) 65535) z (e * 8 + k) (omega arith)
        ∙ get_d_any j (e * 8 + k) z 65535 (omega arith)
        ∙ equal_read slots_of 8 es e k d 65535 (slots_equal es small) h u
        ∙ pad_read 8 65535 (get_or es e d).cells k

    -- a slot that isn't the filler is a cell of the equation
    pub slot_is_cell : (k z : ℕ) → k < 8 → get_or (all_slots es) (e * 8 + k) z ≢ 65535
        → (k < length (get_or es e d).cells) × (get_or (all_slots es) (e * 8 + k) z ≡ get_or (get_or es e d).cells k z)
    slot_is_cell k z u f =
        let i : k < length (get_or es e d).cells = not_default (get_or es e d).cells k 65535 (λ w. f (slot_read k z u ∙ w)) in
        (i, slot_read k z u ∙ get_d_any (get_or es e d).cells k 65535 z i)

    -- a slot that is the filler stands behind the last cell
    pub slot_is_filler : (k z : ℕ) → k < 8 → get_or (all_slots es) (e * 8 + k) z ≡ 65535 → length (get_or es e d).cells ≤ k
    slot_is_filler k z u w = filler_past_end 65535 (get_or es e d).cells k cells_below (sym (slot_read k z u) ∙ w)
