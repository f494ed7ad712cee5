-- Elements stored into an array one after another, each as w numbers: what is still to come, stored from here on, gives what the whole gives from the start.
-- And fillers stored where the array has them already. Rests on the law of runs of stores. Assumes nothing.
use mathlib.Core.Path.{◌≡◌, refl, sym, ap, ◌∙◌}
use mathlib.Core.List.{List, [], ◌∷◌, ◌++◌, map, append_assoc}
use Prim.Native.Nat.{ℕ, ◌+◌, ◌-◌, ◌*◌, ◌≤◌, ◌<◌}
use native.Mathlib.Nat.{suc-mul}
use native.Mathlib.Numerals.{add-one}
use native.Mathlib.Omega.{arith}
use lib.ListN.{length, set, replicate, length-append, length-replicate, replicate-append-replicate}
use lib.Seq.{sets, length-sets}
use Rattle.lists.specs.Lists.{joined, pad}
use Rattle.lists.proofs.Stores.{sets_append}

-- `rest` is still to be stored at k, of `all` that goes to `at` of an array of n places; g gives the w numbers that an element is stored as
pub record Storing (n w : ℕ) (g : ℕ → List ℕ) (before : List ℕ) (at : ℕ) (all out : List ℕ) (k : ℕ) (rest : List ℕ) : Type 0 where
  pub long : length out ≡ n
  pub counted : k + length rest ≡ at + length all
  pub stored : sets out (k * w) (joined (map g rest)) ≡ sets before (at * w) (joined (map g all))

module _ {n w : ℕ} {g : ℕ → List ℕ} {before : List ℕ} {at : ℕ} {all : List ℕ} where
  pub storing_start : length before ≡ n → Storing n w g before at all before at all
  storing_start h = record { long = h; counted = refl; stored = refl }

  module _ {out : List ℕ} {k : ℕ} {rest : List ℕ} (s : Storing n w g before at all out k rest) where
    pub storing_room : {x : ℕ} {r : List ℕ} → rest ≡ x ∷ r → (m : ℕ) → at + length all ≤ m → k < m
    storing_room e m h = omega (arith, s.counted, ap length e)

    pub storing_next : {x : ℕ} {r : List ℕ} → rest ≡ x ∷ r → length (g x) ≡ w → (after : List ℕ) → after ≡ sets out (k * w) (g x)
        → Storing n w g before at all after (k + 1) r
    storing_next {x} {r} e l after is =
        let place : k * w + length (g x) ≡ (k + 1) * w = omega (arith, l, suc-mul k w, ap (λ (j : ℕ). j * w) (add-one k)) in
        record {
          long = ap length is ∙ length-sets out (k * w) (g x) ∙ s.long;
          counted = omega (arith, s.counted, ap length e);
          stored = rw is
              (ap (λ (j : ℕ). sets (sets out (k * w) (g x)) j (joined (map g r))) (sym place)
              ∙ sym (sets_append out (k * w) (g x) (joined (map g r)))
              ∙ ap (λ (y : List ℕ). sets out (k * w) (joined (map g y))) (sym e)
              ∙ s.stored);
        }

    pub storing_pass : {r : List ℕ} → rest ≡ r → Storing n w g before at all out k r
    storing_pass e = rw e at s

    pub storing_end : rest ≡ [] → (k ≡ at + length all) × (out ≡ sets before (at * w) (joined (map g all)))
    storing_end e = (omega (arith, s.counted, ap length e), ap (λ (y : List ℕ). sets out (k * w) (joined (map g y))) (sym e) ∙ s.stored)

-- ---- one number for each element

singles : (h : ℕ → ℕ) (l : List ℕ) → joined (map (λ (x : ℕ). h x ∷ []) l) ≡ map h l
singles h [] = refl
singles h (x ∷ l) = ap (λ (r : List ℕ). h x ∷ r) (singles h l)

pub single_store : (out : List ℕ) (k x : ℕ) → set out k x ≡ sets out (k * 1) (x ∷ [])
single_store out k x = let one : k * 1 ≡ k = omega arith in rw one

pub single_stored : (h : ℕ → ℕ) (before : List ℕ) (at : ℕ) (all out : List ℕ) → out ≡ sets before (at * 1) (joined (map (λ (x : ℕ). h x ∷ []) all)) → out ≡ sets before at (map h all)
single_stored h before at all out e = let one : at * 1 ≡ at = omega arith in e ∙ rw (one, singles h all)

-- ---- fillers

-- fillers behind a list that is filled up anyway
pub pad_filler : {A : Type 0} (n : ℕ) (d : A) (l : List A) (k : ℕ) → length l + k ≤ n → pad n d (l ++ replicate k d) ≡ pad n d l
pad_filler {A = A} n d l k h =
    let long : length (l ++ replicate k d) ≡ length l + k = omega (arith, length-append l (replicate k d), length-replicate k d) in
    let sum : k + (n - length (l ++ replicate k d)) ≡ n - length l = omega arith in
    append_assoc l (replicate k d) (replicate (n - length (l ++ replicate k d)) d)
    ∙ ap (λ (x : List A). l ++ x) (replicate-append-replicate k (n - length (l ++ replicate k d)) d ∙ ap (λ (m : ℕ). replicate m d) sum)
