-- An array with a count holds a list: `pad n d l`, the list and then the filler d. A push writes at the count; a read at any place reads the list,
-- where the filler is what a list reads past its end. And what a loop over such an array has still to visit. Assumes nothing.
use Prim.Native.Nat.{ℕ, zero, suc, ◌+◌, ◌-◌, ◌≤◌, ◌<◌}
use mathlib.Core.Path.{◌≡◌, refl, sym, ◌∙◌, ap}
use mathlib.Core.List.{List, [], ◌∷◌, ◌++◌, append_assoc}
use native.Mathlib.Numerals.{add-one}
use native.Mathlib.Nat.{not-suc-le-zero, le_of_suc-le-suc}
use native.Mathlib.Omega.{arith}
use lib.ListN.{length, get_or, take, drop, set, replicate, length-append, length-replicate, drop_of_length-le}
use lib.Seq.{take-append_seam, drop-cons}
use Rattle.lists.specs.Lists.{pad}

module _ {A : Type 0} where
  -- ---- the array

  pub length_pad : (n : ℕ) (d : A) (l : List A) → length l ≤ n → length (pad n d l) ≡ n
  length_pad n d l h = omega (arith, length-append l (replicate (n - length l) d), length-replicate (n - length l) d)

  pub pad_nil : (n : ℕ) (d : A) → replicate n d ≡ pad n d []
  pad_nil n d = let e : n ≡ n - 0 = omega arith in ap (λ (k : ℕ). replicate k d) e

  pub pad_take : (n : ℕ) (d : A) (l : List A) → take (length l) (pad n d l) ≡ l
  pad_take n d l = take-append_seam l (replicate (n - length l) d)

  -- the first of equal elements
  pub take_replicate : (k n : ℕ) (x : A) → k ≤ n → take k (replicate n x) ≡ replicate k x
  take_replicate zero n x h = refl
  take_replicate (suc k) zero x h = absurd (not-suc-le-zero h)
  take_replicate (suc k) (suc n) x h = ap (x ∷◌) (take_replicate k n x (le_of_suc-le-suc h))

  fill_all : (k : ℕ) (d : A) (i : ℕ) → get_or (replicate k d) i d ≡ d
  fill_all zero d i = refl
  fill_all (suc k) d zero = refl
  fill_all (suc k) d (suc i) = fill_all k d i

  -- a read, at any place
  pub pad_read : (n : ℕ) (d : A) (l : List A) (i : ℕ) → get_or (pad n d l) i d ≡ get_or l i d
  pad_read n d l i = go l (n - length l) i
    where
      go : (x : List A) (k j : ℕ) → get_or (x ++ replicate k d) j d ≡ get_or x j d
      go [] k j = fill_all k d j
      go (y ∷ x) k zero = refl
      go (y ∷ x) k (suc j) = go x k j

  -- a store inside the list
  pub pad_set : (n : ℕ) (d : A) (l : List A) (i : ℕ) (x : A) → i < length l → set (pad n d l) i x ≡ pad n d (set l i x)
  pad_set n d l i x h = go l (n - length l) i h ∙ ap (λ (k : ℕ). set l i x ++ replicate (n - k) d) (same l i)
    where
      go : (y : List A) (k j : ℕ) → j < length y → set (y ++ replicate k d) j x ≡ set y j x ++ replicate k d
      go [] k j h = absurd (not-suc-le-zero h)
      go (z ∷ y) k zero h = refl
      go (z ∷ y) k (suc j) h = ap (λ (t : List A). z ∷ t) (go y k j (le_of_suc-le-suc h))

      same : (y : List A) (j : ℕ) → length y ≡ length (set y j x)
      same [] j = refl
      same (z ∷ y) zero = refl
      same (z ∷ y) (suc j) = ap suc (same y j)

  -- a push: a store at the count
  pub pad_push : (n : ℕ) (d : A) (l : List A) (x : A) → length l < n → set (pad n d l) (length l) x ≡ pad n d (l ++ (x ∷ []))
  pad_push n d l x h =
      ap (λ (k : ℕ). set (l ++ replicate k d) (length l) x) (room l h)
      ∙ go l (n - (length l + 1))
      ∙ ap (λ (k : ℕ). l ++ (x ∷ replicate (n - k) d)) (sym (length-append l (x ∷ [])))
      ∙ sym (append_assoc l (x ∷ []) (replicate (n - length (l ++ (x ∷ []))) d))
    where
      room : (y : List A) → length y < n → n - length y ≡ suc (n - (length y + 1))
      room y w = omega arith

      go : (y : List A) (k : ℕ) → set (y ++ (d ∷ replicate k d)) (length y) x ≡ y ++ (x ∷ replicate k d)
      go [] k = refl
      go (z ∷ y) k = ap (λ (t : List A). z ∷ t) (go y k)

  -- ---- what is still to visit

  -- from place t on
  pub drop_more : (l : List A) (t : ℕ) (d : A) → t < length l → drop t l ≡ get_or l t d ∷ drop (t + 1) l
  drop_more l t d h = drop-cons l t d h ∙ rw add-one

  -- the same with the element by its name
  pub drop_next : (l : List A) (t : ℕ) (d x : A) → t < length l → x ≡ get_or l t d → drop t l ≡ x ∷ drop (t + 1) l
  drop_next l t d x h e = drop_more l t d h ∙ ap (λ (y : A). y ∷ drop (t + 1) l) (sym e)

  pub drop_none : (l : List A) (t : ℕ) → length l ≤ t → drop t l ≡ []
  drop_none l t h = drop_of_length-le l h
