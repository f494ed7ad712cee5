-- General laws of lists that the search rests on: a test of all elements one by one, a list without repetition cut, a value set in two lists of one length, and
-- zeros. Assumes nothing.
use mathlib.Core.Path.{◌≡◌, refl, sym, ap, ◌∙◌}
use mathlib.Core.Bool.{Bool, true, false, and-true}
use mathlib.Core.List.{List, [], ◌∷◌}
use Prim.Native.Nat.{ℕ, zero, suc, ◌+◌, ◌≤◌, ◌<◌}
use native.Mathlib.Decide.{dec_lt}
use native.Mathlib.Omega.{arith}
use lib.Dec.{eqb}
use lib.ListN.{length, get_or, take, drop, set, length-set, get_or-eq_default}
use lib.Seq.{get_or-drop, get_or-set_same}
use Rattle.std.specs.List.{list_all}
use Rattle.std.proofs.lemmas.List.{take-append-drop}
use Rattle.lists.specs.Lists.{all, nodup}
use Rattle.lists.proofs.All.{all_append}
use Rattle.lists.proofs.Members.{nodup_tail}

-- ---- a loop that stops at the first element that fails a test

module _ {r l : List ℕ} (f : ℕ → Bool) (x : ℕ) (more : l ≡ x ∷ r) where
  pub rest_fails : f x ≡ false → all f l ≡ false
  rest_fails h = ap (all f) more ∙ rw h

  pub rest_passes : f x ≡ true → all f l ≡ all f r
  rest_passes h = ap (all f) more ∙ rw h

-- what an iterator over a list tests
pub all_listed : (f : ℕ → Bool) (l : List ℕ) → list_all f l ≡ all f l
all_listed f [] = refl
all_listed f (x ∷ l) = rw (all_listed f l)

-- ---- zeros from a place on

zeros_pass : (l : List ℕ) → ((i : ℕ) → get_or l i 0 ≡ 0) → all (λ n. eqb n 0) l ≡ true
zeros_pass [] h = refl
zeros_pass (x ∷ l) h = rw (h zero) (zeros_pass l (λ i. h (suc i)))

pub zeros_behind : (l : List ℕ) (k : ℕ) → ((i : ℕ) → k ≤ i → get_or l i 0 ≡ 0) → all (λ n. eqb n 0) (drop k l) ≡ true
zeros_behind l k h = zeros_pass (drop k l) (λ i. get_or-drop k l i 0 ∙ h (k + i) (omega arith))

-- so the numbers before it decide whether all are zeros
pub zeros_before : (l : List ℕ) (k : ℕ) → ((i : ℕ) → k ≤ i → get_or l i 0 ≡ 0) → all (λ n. eqb n 0) (take k l) ≡ all (λ n. eqb n 0) l
zeros_before l k h =
    sym (ap (all (λ n. eqb n 0)) (sym (take-append-drop k l)) ∙ all_append (λ n. eqb n 0) (take k l) (drop k l) ∙ rw (zeros_behind l k h) (and-true (all (λ n. eqb n 0) (take k l))))

-- ---- no number twice

pub nodup_drop : (n : ℕ) (l : List ℕ) → nodup l ≡ true → nodup (drop n l) ≡ true
nodup_drop zero l h = h
nodup_drop (suc n) [] h = h
nodup_drop (suc n) (x ∷ l) h = nodup_drop n l (nodup_tail x l h)

-- ---- a value just set, in lists of one length

pub set_read : (a b : List ℕ) (i x : ℕ) → length b ≡ length a → get_or (set b i x) i 0 ≡ get_or (set a i x) i 0
set_read a b i x e = go (dec_lt i (length a))
  where
    go : Dec (i < length a) → get_or (set b i x) i 0 ≡ get_or (set a i x) i 0
    go (yes h) = get_or-set_same b i x 0 (omega arith) ∙ sym (get_or-set_same a i x 0 h)
    go (no h) =
        get_or-eq_default (set b i x) 0 (omega (arith, length-set b i x))
        ∙ sym (get_or-eq_default (set a i x) 0 (omega (arith, length-set a i x)))
