-- Two lists of which each number of the first is paired with one of the second, no two with the same: then the first is not longer, whatever it is that pairs them
-- (`paired_length`). By recursion on the first list; the number of the second that is paired with its head is taken out. Assumes nothing.
use mathlib.Core.Path.{◌≡◌, refl}
use mathlib.Core.Bool.{Bool, true, not}
use mathlib.Core.List.{List, [], ◌∷◌}
use Prim.Native.Nat.{ℕ, ◌≤◌, ◌<◌}
use native.Mathlib.Omega.{arith}
use native.Mathlib.Decide.{dec_lt}
use lib.Dec.{eqb}
use lib.ListN.{length}
use borrow.Author.Tests.{eq-eqb, ne_eqb}
use Rattle.lists.specs.Lists.{count, has, nodup, without}
use Rattle.lists.proofs.Tests.{clash}
use Rattle.lists.proofs.Members.{has_head, has_tail, has_kept, nodup_head, nodup_tail}
use Rattle.lists.proofs.Counts.{count_full, length_keep}

-- a list is longer than what is left when a number of it is taken out
pub without_shorter : (c : ℕ) (l : List ℕ) → has l c ≡ true → length (without c l) < length l
without_shorter c l h = rw (length_keep other l) (go (dec_lt (count other l) (length l)))
  where
    other : ℕ → Bool
    other x = not (eqb x c)

    go : Dec (count other l < length l) → count other l < length l
    go (yes few) = few
    go (no all) = clash (other c) (count_full other l (omega (arith, all)) c h) (rw (eq-eqb c c refl))

module _ (P : ℕ → ℕ → Type 0) where
  pub paired_length : (k l : List ℕ) → nodup k ≡ true → ((x : ℕ) → has k x ≡ true → (y : ℕ) × (has l y ≡ true) × P x y)
      → ((x z y : ℕ) → has k x ≡ true → has k z ≡ true → P x y → P z y → x ≡ z) → length k ≤ length l
  paired_length [] l once some one = omega arith
  paired_length (x ∷ k) l once some one =
      let (y, h, p) = some x (has_head x k) in
      let rest = paired_length k (without y l) (nodup_tail x k once) (λ z m. others y p z m (some z (has_tail x k z m)))
      (λ a b c m n. one a b c (has_tail x k a m) (has_tail x k b n)) in
      omega (arith, rest, without_shorter y l h)
    where
      -- what the others are paired with is another number
      others : (y : ℕ) → P x y → (z : ℕ) → has k z ≡ true → ((w : ℕ) × (has l w ≡ true) × P z w) → (w : ℕ) × (has (without y l) w ≡ true) × P z w
      others y p z m (w, h, q) = (w, has_kept (λ v. not (eqb v y)) l w (rw (ne_eqb w y other)) h, q)
        where
          other : w ≡ y → ⊥
          other e = clash (has k x) (rw (one x z y (has_head x k) (has_tail x k z m) p (rw e at q)) m) (nodup_head x k once)
