-- So many of a list's numbers chosen: any number up to the list's length can be had, with one of them held chosen or held out. The idea: that one is
-- taken out of the list, and so many of the rest are chosen. For a list with no number twice. Assumes nothing.
use mathlib.Core.Path.{◌≡◌, refl, ◌∙◌}
use mathlib.Core.Bool.{Bool, true, false, not, cond}
use mathlib.Core.List.{List, [], ◌∷◌}
use Prim.Native.Nat.{ℕ, zero, suc, ◌+◌, ◌≤◌}
use native.Mathlib.Nat.{not-suc-le-zero, le_of_suc-le-suc}
use native.Mathlib.Omega.{arith}
use lib.Dec.{eqb}
use lib.ListN.{length}
use borrow.Author.Tests.{eq-eqb, ne_eqb, not-true}
use Rattle.lists.specs.Lists.{bit, count, has, nodup, without}
use Rattle.lists.proofs.Tests.{clash}
use Rattle.lists.proofs.Members.{kept_passes, nodup_head, nodup_tail, nodup_keep}
use Rattle.lists.proofs.Counts.{count_ext, count_zero, count_out}
use Rattle.lists.proofs.Rearranged.{count_all}

-- the test f, but v at c
abbrev held_at : ℕ → Bool → (ℕ → Bool) → ℕ → Bool
held_at c v f x = cond (eqb x c) v (f x)

held_own : (c : ℕ) (v : Bool) (f : ℕ → Bool) → held_at c v f c ≡ v
held_own c v f = rw (eq-eqb c c refl)

-- so many chosen
pub chosen : (l : List ℕ) (k : ℕ) → nodup l ≡ true → k ≤ length l → (f : ℕ → Bool) × (count f l ≡ k)
chosen l zero once few = (λ _. false, count_zero (λ _. false) l (λ c _. refl))
chosen [] (suc k) once few = absurd (not-suc-le-zero few)
chosen (x ∷ l) (suc k) once few =
    let (f, e) = chosen l k (nodup_tail x l once) (le_of_suc-le-suc few) in
    let same : count (held_at x true f) l ≡ count f l = count_ext (held_at x true f) f l (other f) in
    (held_at x true f, rw (eq-eqb x x refl) (omega arith))
  where
    other : (f : ℕ → Bool) (c : ℕ) → has l c ≡ true → held_at x true f c ≡ f c
    other f c h = rw (ne_eqb c x (λ w. clash (has l x) (rw w at h) (nodup_head x l once)))

module _ (l : List ℕ) (once : nodup l ≡ true) (c : ℕ) (here : has l c ≡ true) where
  -- the number c and the rest of the list
  pub count_rest : (f : ℕ → Bool) → count f l ≡ bit (f c) + count f (without c l)
  count_rest f = rw here at (count_out f c l once)

  pub length_rest : length l ≡ suc (length (without c l))
  length_rest = omega (arith, count_rest (λ _. true), count_all l, count_all (without c l))

  -- so many of the rest chosen, and c as v says
  pub chosen_with : (v : Bool) (k : ℕ) → suc k ≤ length l → (f : ℕ → Bool) × (count f l ≡ bit v + k) × (f c ≡ v)
  chosen_with v k few =
      let (f, e) = chosen (without c l) k (nodup_keep (λ x. not (eqb x c)) l once) (omega (arith, length_rest)) in
      let same : count (held_at c v f) (without c l) ≡ count f (without c l) = count_ext (held_at c v f) f (without c l) (other f) in
      (held_at c v f, count_rest (held_at c v f) ∙ rw (held_own c v f, same, e), held_own c v f)
    where
      other : (f : ℕ → Bool) (x : ℕ) → has (without c l) x ≡ true → held_at c v f x ≡ f x
      other f x h = rw (not-true (eqb x c) (kept_passes (λ y. not (eqb y c)) l x h))
