-- What the answers of tests say. A law about a test speaks of `t ≡ true` or `t ≡ false`; `decided` splits a test into the two. Assumes nothing.
use mathlib.Core.Path.{◌≡◌, refl, sym, ap, ◌∙◌}
use mathlib.Core.Logic.{◌⊎◌, inl, inr, ◌≢◌}
use mathlib.Core.Bool.{Bool, true, false, not, ◌&&◌, ◌||◌}
use Prim.Native.Nat.{ℕ, zero, suc, ◌+◌, ◌<◌}
use native.Mathlib.Nat.{not-suc-le-zero}
use native.Mathlib.Omega.{arith}
use native.Mathlib.Numerals.{add-one}
use lib.Dec.{eqb}
use borrow.Author.Tests.{eqb-true, eqb-false}
use Rattle.lists.specs.Lists.{every, bit}

-- a test passes or fails
abbrev pub Decided : Bool → Type 0
Decided t = (t ≡ true) ⊎ (t ≡ false)

pub decided : (t : Bool) → Decided t
decided true = inl refl
decided false = inr refl

-- no test does both
pub clash : {P : Type 0} (t : Bool) → t ≡ true → t ≡ false → P
clash t p f = let z : ◌≡◌ {A = ℕ} 0 1 = cc in absurd (omega arith)

-- two tests that pass together are equal
pub same_test : (a b : Bool) → (a ≡ true → b ≡ true) → (b ≡ true → a ≡ true) → a ≡ b
same_test true b f g = sym (f refl)
same_test false true f g = g refl
same_test false false f g = refl

-- a test is read back from its bit
pub bit_is_one : (t : Bool) → eqb (bit t) 1 ≡ t
bit_is_one true = refl
bit_is_one false = refl

pub bit_is_zero : (t : Bool) → eqb (bit t) 0 ≡ not t
bit_is_zero true = refl
bit_is_zero false = refl

-- ---- "and" and "or"

pub and_left : (a b : Bool) → (a && b) ≡ true → a ≡ true
and_left true b h = refl
and_left false b h = h

pub and_right : (a b : Bool) → (a && b) ≡ true → b ≡ true
and_right true b h = h
and_right false b h = cc

pub and_cases : (a b : Bool) → (a && b) ≡ false → (a ≡ false) ⊎ (b ≡ false)
and_cases true b h = inr h
and_cases false b h = inl refl

pub or_cases : (a b : Bool) → (a || b) ≡ true → (a ≡ true) ⊎ (b ≡ true)
or_cases true b h = inl refl
or_cases false b h = inr h

pub or_left : (a b : Bool) → a ≡ true → (a || b) ≡ true
or_left true b h = refl
or_left false b h = clash false h refl

pub or_right : (a b : Bool) → b ≡ true → (a || b) ≡ true
or_right true b h = refl
or_right false b h = h

pub or_false_left : (a b : Bool) → (a || b) ≡ false → a ≡ false
or_false_left true b h = h
or_false_left false b h = refl

pub or_false_right : (a b : Bool) → (a || b) ≡ false → b ≡ false
or_false_right true b h = cc
or_false_right false b h = h

pub not_or : (a b : Bool) → not (a || b) ≡ (not a && not b)
not_or true b = refl
not_or false b = refl

-- ---- a test at every number below n

pub every_at : (n : ℕ) (f : ℕ → Bool) → every n f ≡ true → (c : ℕ) → c < n → f c ≡ true
every_at zero f h c l = absurd (not-suc-le-zero l)
every_at (suc n) f h c l = go (λ k. every_at n f (and_right (f n) (every n f) h) c k) (decided (eqb c n))
  where
    go : (c < n → f c ≡ true) → Decided (eqb c n) → f c ≡ true
    go below (inl e) = ap f (eqb-true c n e) ∙ and_left (f n) (every n f) h
    go below (inr e) = below (let d : c ≢ n = eqb-false c n e in omega arith)

pub every_of : (n : ℕ) (f : ℕ → Bool) → ((c : ℕ) → c < n → f c ≡ true) → every n f ≡ true
every_of zero f h = refl
every_of (suc n) f h = rw (h n (omega arith)) (every_of n f (λ c l. h c (omega arith)))

pub every_not : (n : ℕ) (f : ℕ → Bool) → every n f ≡ false → (c : ℕ) × (c < n) × (f c ≡ false)
every_not zero f h = clash true refl h
every_not (suc n) f h = go (λ e. every_not n f e) (and_cases (f n) (every n f) h)
  where
    go : (every n f ≡ false → (c : ℕ) × (c < n) × (f c ≡ false)) → (f n ≡ false) ⊎ (every n f ≡ false) → (c : ℕ) × (c < suc n) × (f c ≡ false)
    go below (inl e) = (n, omega arith, e)
    go below (inr e) = let (c, l, w) = below e in (c, omega arith, w)

-- a failure below n is a failure of all
pub every_fails : (n : ℕ) (f : ℕ → Bool) (c : ℕ) → c < n → f c ≡ false → every n f ≡ false
every_fails n f c l e = go (decided (every n f))
  where
    go : Decided (every n f) → every n f ≡ false
    go (inl h) = clash (f c) (every_at n f h c l) e
    go (inr h) = h

-- one number more
pub every_more : (i : ℕ) (f : ℕ → Bool) → f i ≡ true → every i f ≡ true → every (i + 1) f ≡ true
every_more i f h e = rw (add-one, h) e

-- two tests that agree below n
pub every_ext : (n : ℕ) (f g : ℕ → Bool) → ((c : ℕ) → c < n → f c ≡ g c) → every n f ≡ every n g
every_ext zero f g h = refl
every_ext (suc n) f g h = rw (h n (omega arith), every_ext n f g (λ c l. h c (omega arith)))
