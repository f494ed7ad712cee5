-- Decimal numbers by their last digit. A number below 10^(k + 1) has at most k digits more than one, so that a bound k or more gives the same text; 2^64 is below 10^20, so the
-- bound of `decimal` never cuts off. Assumes nothing.
use Prim.Native.Nat.{ℕ, zero, suc, ◌+◌, ◌*◌, ◌/◌, ◌%◌, ◌≤◌, ◌<◌}
use mathlib.Core.Path.{◌≡◌}
use mathlib.Core.List.{[], ◌∷◌, ◌++◌}
use native.Mathlib.Nat.{mod-eq_of_lt}
use native.Mathlib.Decide.{dec_lt}
use native.Mathlib.Omega.{arith}
use borrow.Author.Tests.{lt-ltb, le-ltb}
use Rattle.text.specs.Text.{decimal_up_to, decimal}

-- 10^k
abbrev tens : ℕ → ℕ
tens zero = 1
tens (suc k) = 10 * tens k

-- one digit
pub decimal_digit : (n : ℕ) → n < 10 → decimal n ≡ (48 + n) ∷ []
unfolding decimal
decimal_digit n h = rw (lt-ltb n 10 h)

-- the bound plays no part where it is large enough
bound_more : (k n : ℕ) → n < tens (suc k) → decimal_up_to (suc k) n ≡ decimal_up_to k n
bound_more zero n h = let u : n < 10 = omega arith in rw (lt-ltb n 10 u, mod-eq_of_lt u)
bound_more (suc k) n h = go (dec_lt n 10) (bound_more k (n / 10) (omega arith))
  where
    go : Dec (n < 10) → decimal_up_to (suc k) (n / 10) ≡ decimal_up_to k (n / 10) → decimal_up_to (suc (suc k)) n ≡ decimal_up_to (suc k) n
    go (yes u) ih = rw (lt-ltb n 10 u)
    go (no u) ih = rw (le-ltb n 10 (omega arith), ih)

-- the last digit stands behind the others
pub decimal_more : (n : ℕ) → 10 ≤ n → n < 18446744073709551616 → decimal n ≡ decimal (n / 10) ++ ((48 + n % 10) ∷ [])
unfolding decimal
decimal_more n h u = let e : decimal_up_to 19 (n / 10) ≡ decimal_up_to 18 (n / 10) = bound_more 18 (n / 10) (omega arith) in rw (le-ltb n 10 h, e)
