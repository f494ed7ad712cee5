-- General laws of lists, for the functions of the rules: a list stored into an array run by run, where what is still to come, stored from here on, gives what
-- the whole gives from the start; and elements that are kept. Rests on the laws of stores one after another. Assumes nothing.
use mathlib.Core.Path.{◌≡◌, refl, sym, ap, ◌∙◌}
use mathlib.Core.Bool.{Bool, true, false, cond}
use mathlib.Core.List.{List, [], ◌∷◌, ◌++◌, map}
use Prim.Native.Nat.{ℕ, ◌+◌, ◌*◌, ◌≤◌}
use native.Mathlib.Omega.{arith}
use lib.ListN.{length, length-append}
use lib.Seq.{sets, length-sets}
use Rattle.lists.specs.Lists.{keep, all}
use Rattle.lists.proofs.All.{all_head, all_tail}
use Rattle.lists.proofs.Stores.{sets_append}
use Rattle.lists.proofs.Joined.{joined_singles}
use Rattle.lists.proofs.Storing.{Storing}

-- ---- numbers stored run by run

module _ {n : ℕ} {before : List ℕ} {at : ℕ} {all out : List ℕ} {k : ℕ} {rest : List ℕ} (s : Storing n 1 (λ (x : ℕ). x ∷ []) before at all out k rest) where
  plain : sets out k rest ≡ sets before at all
  plain =
      let here : k * 1 ≡ k = omega arith in
      let start : at * 1 ≡ at = omega arith in
      rw (here, start, joined_singles rest, joined_singles all) at s.stored

  -- there is room for what comes next
  pub run_room : (l r : List ℕ) → rest ≡ l ++ r → (m : ℕ) → at + length all ≤ m → k + length l ≤ m
  run_room l r e m h = omega (arith, s.counted, ap length e, length-append l r)

  -- several numbers are stored at once
  pub run_next : (l r : List ℕ) → rest ≡ l ++ r → (after : List ℕ) → after ≡ sets out k l → (next : ℕ) → next ≡ k + length l → Storing n 1 (λ (x : ℕ). x ∷ []) before at all after next r
  run_next l r e after is next w =
      let there : (k + length l) * 1 ≡ k + length l = omega arith in
      let start : at * 1 ≡ at = omega arith in
      rw (is, w)
      record {
        long = length-sets out k l ∙ s.long;
        counted = omega (arith, s.counted, ap length e, length-append l r);
        stored = rw (there, start, joined_singles r, joined_singles all) (sym (sets_append out k l r) ∙ ap (sets out k) (sym e) ∙ plain);
      }

  -- nothing is left
  pub run_end : rest ≡ [] → (k ≡ at + length all) × (out ≡ sets before at all)
  run_end e = (omega (arith, s.counted, ap length e), ap (sets out k) (sym e) ∙ plain)

-- ---- elements that are kept

module _ {A : Type 0} (f : A → Bool) where
  module _ {r l : List A} (x : A) (more : l ≡ x ∷ r) where
    -- the first element is kept
    pub keep_next : f x ≡ true → keep f l ≡ x ∷ keep f r
    keep_next t = ap (keep f) more ∙ rw t

    -- or passed
    pub keep_pass : f x ≡ false → keep f l ≡ keep f r
    keep_pass t = ap (keep f) more ∙ rw t

  -- no more are kept than there are
  pub keep_fewer : (l : List A) → length (keep f l) ≤ length l
  keep_fewer [] = omega arith
  keep_fewer (x ∷ l) = go (f x) (keep_fewer l)
    where
      go : (t : Bool) → length (keep f l) ≤ length l → length (cond t (x ∷ keep f l) (keep f l)) ≤ length (x ∷ l)
      go true ih = omega arith
      go false ih = omega arith

-- what a function makes of elements that pass a test passes another
pub all_mapped : {A B : Type 0} (f : A → Bool) (p : B → Bool) (g : A → B) (l : List A) → ((x : A) → f x ≡ true → p (g x) ≡ true) → all f l ≡ true → all p (map g l) ≡ true
all_mapped f p g [] h w = refl
all_mapped f p g (x ∷ l) h w = rw (h x (all_head f x l w)) (all_mapped f p g l h (all_tail f x l w))
