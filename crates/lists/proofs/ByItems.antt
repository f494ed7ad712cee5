-- Loops over the items of a list, `for &x in list`: what holds of the items before place k, one item further on; and what `any` over them answers. Rests on the
-- laws of `take`. Assumes nothing.
use mathlib.Core.Path.{◌≡◌, refl, sym, ◌∙◌}
use mathlib.Core.Bool.{Bool, true, false}
use mathlib.Core.List.{List, [], ◌∷◌, ◌++◌, append-nil}
use Prim.Native.Nat.{ℕ, ◌+◌, ◌≤◌, ◌<◌}
use native.Mathlib.Omega.{arith}
use lib.ListN.{length, get_or, take, set, length-take, length-append}
use lib.Dec.{eqb}
use borrow.Author.Tests.{eqb-true, eq-eqb}
use Rattle.std.specs.List.{list_any}
use Rattle.std.proofs.lemmas.List.{take_more}
use Rattle.lists.specs.Lists.{bit, keep, count, any, has, pad}
use Rattle.lists.proofs.Tests.{same_test}
use Rattle.lists.proofs.Counts.{count_append, count_le, length_keep}
use Rattle.lists.proofs.Kept.{keep_append}
use Rattle.lists.proofs.Arrays.{pad_push}

module _ (l : List ℕ) (k x : ℕ) (inside : k < length l) (at : x ≡ get_or l k 0) where
  -- how many pass a test
  pub count_more : (f : ℕ → Bool) → count f (take (k + 1) l) ≡ count f (take k l) + bit (f x)
  count_more f = rw (take_more l k 0 inside, count_append f (take k l) (get_or l k 0 ∷ []), at) (omega arith)

  module _ (f : ℕ → Bool) where
    further : keep f (take (k + 1) l) ≡ keep f (take k l) ++ keep f (x ∷ [])
    further = rw (take_more l k 0 inside, ← at) (keep_append f (take k l) (x ∷ []))

    -- the item passes and is kept
    pub kept_more : f x ≡ true → keep f (take (k + 1) l) ≡ keep f (take k l) ++ x ∷ []
    kept_more h = further ∙ rw h

    -- it fails, and is passed over
    pub kept_same : f x ≡ false → keep f (take (k + 1) l) ≡ keep f (take k l)
    kept_same h = further ∙ rw h (append-nil (keep f (take k l)))

    -- an array of n places with a count holds those kept, and stores one more
    pub kept_stored : {n : ℕ} {array : List ℕ} {len : ℕ} → array ≡ pad n 0 (keep f (take k l)) → len ≡ length (keep f (take k l)) → len < n → f x ≡ true
        → (set array len x ≡ pad n 0 (keep f (take (k + 1) l))) × (len + 1 ≡ length (keep f (take (k + 1) l)))
    kept_stored {n} held counted room h =
        rw (kept_more h, held, counted) (pad_push n 0 (keep f (take k l)) x (omega arith), sym (length-append (keep f (take k l)) (x ∷ [])))

-- no more are kept than there are
pub kept_few : (l : List ℕ) (k : ℕ) (f : ℕ → Bool) → length (keep f (take k l)) ≤ k
kept_few l k f = omega (arith, length_keep f (take k l), count_le f (take k l), length-take k l)

-- std's word for `any`
pub any_listed : (f : ℕ → Bool) (l : List ℕ) → list_any f l ≡ any f l
any_listed f [] = refl
any_listed f (x ∷ l) = rw (any_listed f l)

-- std's `contains`
pub has_listed : (c : ℕ) (l : List ℕ) → list_any (λ x. eqb x c) l ≡ has l c
has_listed c [] = refl
has_listed c (x ∷ l) = rw (same_test (eqb x c) (eqb c x) (λ h. eq-eqb c x (sym (eqb-true x c h))) (λ h. eq-eqb x c (sym (eqb-true c x h))), has_listed c l)
