-- The cells in the eight slots at a place: none past the last place, and none before a list is put there. After that the slots hold it, and those at any
-- other place hold what they held. Rests on the laws of a list stored into another. Assumes nothing.
use mathlib.Core.Path.{◌≡◌, refl, ap, ◌∙◌}
use mathlib.Core.Logic.{◌≢◌}
use mathlib.Core.Bool.{true}
use mathlib.Core.List.{List, [], ◌∷◌}
use Prim.Native.Nat.{ℕ, ◌+◌, ◌*◌, ◌≤◌, ◌<◌}
use native.Mathlib.Decide.{dec_lt}
use native.Mathlib.Omega.{arith}
use lib.Dec.{ltb}
use lib.ListN.{length, get_or, take, drop, replicate}
use lib.Seq.{sets, get_or-take, get_or-drop}
use borrow.Author.Tests.{ltb-true, lt-ltb, eq-eqb}
use Rattle.lists.specs.Lists.{all, pad}
use Rattle.lists.proofs.Elements.{replicate_all}
use Rattle.lists.proofs.All.{all_implied}
use Rattle.lists.proofs.Arrays.{length_pad, drop_none}
use Rattle.lists.proofs.Stores.{slice_stored, slice_before, slice_behind}
use Rattle.blocks.specs.BlockSets.{before, slot_cells}
use Rattle.blocks.proofs.Slots.{before_pad}

-- ---- nothing is put

pub slots_none : (slots : List ℕ) (e : ℕ) → length slots ≡ 8192 → 1024 ≤ e → slot_cells slots e ≡ []
unfolding slot_cells
slots_none slots e wide h = rw (drop_none slots (e * 8) (omega arith))

-- before anything is put there is nothing
pub slots_filled : (n e : ℕ) → slot_cells (replicate n 65535) e ≡ []
unfolding slot_cells
slots_filled n e = before_first (take 8 (drop (e * 8) filled)) (get_or-take 8 (drop (e * 8) filled) 0 65535 (omega arith) ∙ get_or-drop (e * 8) filled 0 65535 ∙ there)
  where
    filled : List ℕ
    filled = replicate n 65535

    there : get_or filled (e * 8 + 0) 65535 ≡ 65535
    there = replicate_all (λ (i v : ℕ). v ≡ 65535) n 65535 65535 (λ i l. refl) (λ i l. refl) (e * 8 + 0)

    before_first : (l : List ℕ) → get_or l 0 65535 ≡ 65535 → before 65535 l ≡ []
    before_first [] h = refl
    before_first (y ∷ l) h = rw (eq-eqb y 65535 h)

-- ---- a list is put

module _ (slots l : List ℕ) (e : ℕ) (wide : length slots ≡ 8192) (place : e < 1024) (few : length l ≤ 8) where
  eight : length (pad 8 65535 l) ≡ 8
  eight = length_pad 8 65535 l few

  fits : e * 8 + length (pad 8 65535 l) ≤ length slots
  fits = omega (arith, eight)

  pub put_there : all (λ d. ltb d 1024) l ≡ true → slot_cells (sets slots (e * 8) (pad 8 65535 l)) e ≡ l
  unfolding slot_cells
  put_there h =
      ap (before 65535) (rw eight at (slice_stored slots (pad 8 65535 l) (e * 8) fits))
      ∙ before_pad 8 65535 l (all_implied (λ d. ltb d 1024) (λ d. ltb d 65535) l (λ d w. lt-ltb d 65535 (omega (arith, ltb-true d 1024 w))) h)

  pub put_elsewhere : (d : ℕ) → d ≢ e → slot_cells (sets slots (e * 8) (pad 8 65535 l)) d ≡ slot_cells slots d
  unfolding slot_cells
  put_elsewhere d other = go (dec_lt d e)
    where
      go : Dec (d < e) → slot_cells (sets slots (e * 8) (pad 8 65535 l)) d ≡ slot_cells slots d
      go (yes h) = ap (before 65535) (slice_before slots (pad 8 65535 l) (e * 8) fits (d * 8) 8 (omega arith))
      go (no h) = ap (before 65535) (slice_behind slots (pad 8 65535 l) (e * 8) fits (d * 8) 8 (omega (arith, eight)))
