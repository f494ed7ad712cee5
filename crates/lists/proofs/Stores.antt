-- A list stored into a longer one from place i on, `sets`: one run of stores after another is the run of both lists joined; the list stands where it was
-- stored, and what lies before or behind it is unchanged. Assumes nothing.
use mathlib.Core.Path.{◌≡◌, refl, sym, ap, ◌∙◌}
use mathlib.Core.List.{List, [], ◌∷◌, ◌++◌, append_assoc}
use Prim.Native.Nat.{ℕ, suc, ◌+◌, ◌≤◌}
use native.Mathlib.Nat.{add-zero, add-suc, suc-add}
use native.Mathlib.Omega.{arith}
use lib.ListN.{length, take, drop, set, take-append-drop}
use borrow.Rule.Slice.PartMut.{put_mid}
use Rattle.std.proofs.lemmas.List.Edits.{paste_all}
use Rattle.std.proofs.lemmas.Slice.{put_mid-paste}
use lib.Seq.{sets, set_out, sets-eq, length-sets, length-take-le, take-set-le, drop-set-lt, take-append_seam, drop_at}
use Rattle.lists.proofs.Joined.{slice_append}

pub sets_append : {A : Type 0} (l : List A) (i : ℕ) (xs ys : List A) → sets l i (xs ++ ys) ≡ sets (sets l i xs) (i + length xs) ys
sets_append l i [] ys = rw add-zero
sets_append l i (x ∷ xs) ys = rw (add-suc, ← suc-add) (sets_append (set l i x) (suc i) xs ys)

-- a run that begins past the end changes nothing
pub sets_past_end : {A : Type 0} (l : List A) (i : ℕ) (xs : List A) → length l ≤ i → sets l i xs ≡ l
sets_past_end l i [] h = refl
sets_past_end l i (x ∷ xs) h = rw (set_out l i x h) (sets_past_end l (suc i) xs (omega arith))

module _ {A : Type 0} where
  take_sets : (vs l : List A) (i n : ℕ) → n ≤ i → take n (sets l i vs) ≡ take n l
  take_sets [] l i n h = refl
  take_sets (v ∷ vs) l i n h = take_sets vs (set l i v) (suc i) n (omega arith) ∙ take-set-le n l i v h

  drop_sets : (vs l : List A) (i n : ℕ) → i + length vs ≤ n → drop n (sets l i vs) ≡ drop n l
  drop_sets [] l i n h = refl
  drop_sets (v ∷ vs) l i n h = drop_sets vs (set l i v) (suc i) n (omega arith) ∙ drop-set-lt n l i v (omega arith)

  -- a slice inside the first i does not see what stands behind them
  slice_first : (l : List A) (i a k : ℕ) → a + k ≤ i → i ≤ length l → take k (drop a l) ≡ take k (drop a (take i l))
  slice_first l i a k h u =
      ap (λ (x : List A). take k (drop a x)) (sym (take-append-drop i l))
      ∙ slice_append (take i l) (drop i l) a k (omega (arith, length-take-le i l u))

  module _ (l vs : List A) (i : ℕ) (fits : i + length vs ≤ length l) where
    pub slice_stored : take (length vs) (drop i (sets l i vs)) ≡ vs
    slice_stored =
        ap (λ (x : List A). take (length vs) (drop i x)) (sets-eq vs l i fits ∙ append_assoc (take i l) vs (drop (i + length vs) l))
        ∙ ap (take (length vs)) (drop_at (take i l) (vs ++ drop (i + length vs) l) i (length-take-le i l (omega arith)))
        ∙ take-append_seam vs (drop (i + length vs) l)

    -- the same by one copy into a part of the list
    pub copied_stored : (k : ℕ) → k ≡ length vs → put_mid i k l vs ≡ sets l i vs
    copied_stored k e =
        put_mid-paste i k l vs vs k refl refl e
        ∙ paste_all l i vs k e
        ∙ rw e (sym (sets-eq vs l i fits ∙ append_assoc (take i l) vs (drop (i + length vs) l)))

    pub slice_before : (a k : ℕ) → a + k ≤ i → take k (drop a (sets l i vs)) ≡ take k (drop a l)
    slice_before a k h =
        slice_first (sets l i vs) i a k h (omega (arith, length-sets l i vs))
        ∙ ap (λ (x : List A). take k (drop a x)) (take_sets vs l i i (omega arith))
        ∙ sym (slice_first l i a k h (omega arith))

    pub slice_behind : (a k : ℕ) → i + length vs ≤ a → take k (drop a (sets l i vs)) ≡ take k (drop a l)
    slice_behind a k h = ap (take k) (drop_sets vs l i a h)
