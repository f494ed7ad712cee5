-- Bytes moved to the front of a list, one after another: the first ones are those from a place on, and what has not been passed is as it was. Assumes nothing.
use mathlib.Core.Path.{◌≡◌, refl, sym, ◌∙◌}
use mathlib.Core.List.{List}
use Prim.Native.Nat.{ℕ, ◌+◌, ◌≤◌, ◌<◌}
use native.Mathlib.Decide.{dec_lt}
use native.Mathlib.Omega.{arith}
use lib.ListN.{length, get_or, take, drop, set, length-set, length-drop}
use lib.Seq.{get_or-set_same, get_or-set_other, get_or-take, get_or-drop, length-take-le, ext_get_or}

pub record MovedUpTo (from i : ℕ) (before now : List ℕ) : Type 0 where
  pub same_long : length now ≡ length before
  pub moved : (k : ℕ) → k < i → get_or now k 0 ≡ get_or before (from + k) 0
  pub kept : (k : ℕ) → i ≤ k → get_or now k 0 ≡ get_or before k 0

module _ (from : ℕ) (before : List ℕ) where
  pub moved_none : MovedUpTo from 0 before before
  moved_none = record { same_long = refl; moved = λ k h. absurd (omega arith); kept = λ k _. refl }

  -- one byte more; it is read where nothing has been written yet
  pub moved_next : (i : ℕ) (now : List ℕ) → i < length now → MovedUpTo from i before now → MovedUpTo from (i + 1) before (set now i (get_or now (from + i) 0))
  moved_next i now h m = record {
    same_long = length-set now i _ ∙ m.same_long;
    moved = λ k below. at k below (dec_lt k i);
    kept = λ k past. get_or-set_other now i k _ 0 (λ e. omega arith) ∙ m.kept k (omega arith);
  }
    where
      at : (k : ℕ) → k < i + 1 → Dec (k < i) → get_or (set now i (get_or now (from + i) 0)) k 0 ≡ get_or before (from + k) 0
      at k below (yes past) = get_or-set_other now i k _ 0 (λ e. omega arith) ∙ m.moved k past
      at k below (no here) = let e : k ≡ i = omega arith in rw e (get_or-set_same now i _ 0 h ∙ m.kept (from + i) (omega arith))

  -- all of them
  pub moved_all : (n : ℕ) (now : List ℕ) → from + n ≤ length before → MovedUpTo from n before now → take n now ≡ take n (drop from before)
  moved_all n now h m =
      let front : length (take n now) ≡ n = length-take-le n now (omega (arith, m.same_long)) in
      let part : length (take n (drop from before)) ≡ n = length-take-le n (drop from before) (omega (arith, length-drop from before)) in
      ext_get_or 0 (take n now) (take n (drop from before)) (front ∙ sym part)
      (λ k below.
      let inside : k < n = omega (arith, front) in
      get_or-take n now k 0 inside ∙ m.moved k inside ∙ sym (get_or-drop from before k 0) ∙ sym (get_or-take n (drop from before) k 0 inside))
