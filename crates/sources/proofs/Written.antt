-- Equations written one after another: their slots, eight for each, and their remainders. Storing what is left from here on gives what storing all of them
-- from the first on gives. Rests on the law that runs of stores join. Assumes nothing.
use Prim.Native.Nat.{ℕ, ◌+◌, ◌*◌}
use mathlib.Core.Path.{◌≡◌, refl, sym, ◌∙◌}
use mathlib.Core.List.{List, ◌∷◌, map}
use native.Mathlib.Numerals.{add-one}
use native.Mathlib.Omega.{arith}
use lib.ListN.{length, set, length-set}
use lib.Seq.{sets, length-sets}
use Rattle.lists.specs.Lists.{joined}
use Rattle.lists.proofs.Stores.{sets_append}

-- `f` gives the slots of a source and `g` its remainder; of the sources, `rest` are still to be written, from equation e on
pub record Written (f : ℕ → List ℕ) (g : ℕ → ℕ) (all_slots all_rests rest : List ℕ) (e : ℕ) (slots rests : List ℕ) : Type 0 where
  pub slots_long : length slots ≡ 8192
  pub rests_long : length rests ≡ 1024
  pub slots_left : sets slots (e * 8) (joined (map f rest)) ≡ all_slots
  pub rests_left : sets rests e (map g rest) ≡ all_rests

module _ (f : ℕ → List ℕ) (g : ℕ → ℕ) where
  pub written_none : (slots rests rest : List ℕ) (e : ℕ) → length slots ≡ 8192 → length rests ≡ 1024
      → Written f g (sets slots (e * 8) (joined (map f rest))) (sets rests e (map g rest)) rest e slots rests
  written_none slots rests rest e h k = record { slots_long = h; rests_long = k; slots_left = refl; rests_left = refl }

  -- one equation
  pub written_more : {all_slots all_rests rest : List ℕ} {c e : ℕ} {slots rests : List ℕ}
      → Written f g all_slots all_rests (c ∷ rest) e slots rests → length (f c) ≡ 8
      → Written f g all_slots all_rests rest (e + 1) (sets slots (e * 8) (f c)) (set rests e (g c))
  written_more {rest = rest} {c = c} {e = e} {slots = slots} {rests = rests} w eight =
      let next : (e + 1) * 8 ≡ e * 8 + length (f c) = omega arith in
      record {
        slots_long = length-sets slots (e * 8) (f c) ∙ w.slots_long;
        rests_long = length-set rests e (g c) ∙ w.rests_long;
        slots_left = rw next (sym (sets_append slots (e * 8) (f c) (joined (map f rest))) ∙ w.slots_left);
        rests_left = rw add-one w.rests_left;
      }
