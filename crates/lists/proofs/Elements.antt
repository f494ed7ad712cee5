-- What holds of every element of a list, by its place. The place may lie past the end, where `get_or` reads the default, so no law asks for a bound
-- unless it must. Assumes nothing.
use mathlib.Core.Path.{◌≡◌, refl}
use mathlib.Core.Logic.{◌≢◌}
use mathlib.Core.List.{List, [], ◌∷◌}
use Prim.Native.Nat.{ℕ, zero, suc, ◌≤◌, ◌<◌}
use native.Mathlib.Omega.{arith}
use native.Mathlib.Nat.{not-suc-le-zero, le_of_suc-le-suc}
use native.Mathlib.Decide.{dec_lt}
use lib.ListN.{length, get_or, set, replicate, get_or-eq_default}

-- what holds of every element, and of the one written, holds of every element after the store
pub set_all : {A : Type 0} (P : ℕ → A → Type 0) (l : List A) (d : A) (c : ℕ) (v : A) → P c v → ((i : ℕ) → P i (get_or l i d)) → (i : ℕ) → P i (get_or (set l c v) i d)
set_all P [] d c v h f i = f i
set_all P (x ∷ l) d zero v h f zero = h
set_all P (x ∷ l) d zero v h f (suc i) = f (suc i)
set_all P (x ∷ l) d (suc c) v h f zero = f zero
set_all P (x ∷ l) d (suc c) v h f (suc i) = set_all (λ k. P (suc k)) l d c v h (λ k. f (suc k)) i

-- the same of n times one value
pub replicate_all : {A : Type 0} (P : ℕ → A → Type 0) (n : ℕ) (x d : A) → ((i : ℕ) → i < n → P i x) → ((i : ℕ) → n ≤ i → P i d) → (i : ℕ) → P i (get_or (replicate n x) i d)
replicate_all P zero x d h f i = f i (omega arith)
replicate_all P (suc n) x d h f zero = h zero (omega arith)
replicate_all P (suc n) x d h f (suc i) = replicate_all (λ k. P (suc k)) n x d (λ k l. h (suc k) (omega arith)) (λ k l. f (suc k) (omega arith)) i

-- inside a list the default plays no part
pub get_d_any : {A : Type 0} (l : List A) (i : ℕ) (d e : A) → i < length l → get_or l i d ≡ get_or l i e
get_d_any [] i d e h = absurd (not-suc-le-zero h)
get_d_any (x ∷ l) zero d e h = refl
get_d_any (x ∷ l) (suc i) d e h = get_d_any l i d e (le_of_suc-le-suc h)

-- an element that isn't the default stands inside the list
pub not_default : {A : Type 0} (l : List A) (i : ℕ) (d : A) → get_or l i d ≢ d → i < length l
not_default l i d h = go (dec_lt i (length l))
  where
    go : Dec (i < length l) → i < length l
    go (yes w) = w
    go (no w) = absurd (h (get_or-eq_default l d (omega arith)))
