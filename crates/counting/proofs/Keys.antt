-- The key of a state: its digits tell the needs apart, and a loop over the equations that adds a digit for each that is begun and not finished comes to it.
-- Assumes nothing.
use mathlib.Core.Path.{◌≡◌, refl, sym, ap, ◌∙◌}
use mathlib.Core.Logic.{◌⊎◌, inl, inr}
use mathlib.Core.Bool.{Bool, true, false, cond, ◌&&◌}
use mathlib.Core.List.{List, [], ◌∷◌}
use Prim.Native.Nat.{ℕ, ◌+◌, ◌-◌, ◌*◌, ◌≤◌, ◌<◌}
use native.Mathlib.Omega.{arith}
use lib.Dec.{eqb, ltb}
use lib.ListN.{get_or}
use borrow.Author.Tests.{eqb-true, lt-ltb, le-ltb}
use Rattle.lists.specs.Lists.{range, keep, has}
use Rattle.lists.proofs.Tests.{clash, or_cases}
use Rattle.lists.proofs.Members.{range_more, range_none}
use Rattle.counting.specs.States.{digits, key_of}

-- equal digits are of equal needs
module _ (needs other : List ℕ) (small : (e : ℕ) → get_or needs e 0 ≤ 8) (small' : (e : ℕ) → get_or other e 0 ≤ 8) where
  pub digits_same : (es : List ℕ) (k l : ℕ) → digits needs es k ≡ digits other es l → (k ≡ l) × ((e : ℕ) → has es e ≡ true → get_or needs e 0 ≡ get_or other e 0)
  digits_same [] k l h = (h, λ e w. clash false w refl)
  digits_same (x ∷ es) k l h =
      let (a, b) = digits_same es (k * 9 + get_or needs x 0) (l * 9 + get_or other x 0) h in
      (omega (arith, a, small x, small' x), λ e w. go e a b (or_cases (eqb e x) (has es e) w))
    where
      go : (e : ℕ) → k * 9 + get_or needs x 0 ≡ l * 9 + get_or other x 0 → ((d : ℕ) → has es d ≡ true → get_or needs d 0 ≡ get_or other d 0) → (eqb e x ≡ true) ⊎ (has es e ≡ true)
          → get_or needs e 0 ≡ get_or other e 0
      go e a b (inl w) = rw (eqb-true e x w) (omega (arith, a, small x, small' x))
      go e a b (inr w) = b e w

-- the equations from e on
module _ (equations : ℕ) (needs rooms start_rooms : List ℕ) where
  is_open : ℕ → Bool
  is_open e = ltb 0 (get_or rooms e 0) && ltb (get_or rooms e 0) (get_or start_rooms e 0)

  -- the digits of the equations from e on, behind those that there are, make the key
  pub KeyAt : ℕ → ℕ → Type 0
  KeyAt e key = digits needs (keep is_open (range e (equations - e))) key ≡ key_of equations needs rooms start_rooms

  pub key_start : KeyAt 0 0
  unfolding key_of KeyAt is_open
  key_start = ap (λ (n : ℕ). digits needs (keep is_open (range 0 n)) 0) (let w : equations - 0 ≡ equations = omega arith in w)

  pub key_end : (e key : ℕ) → equations ≤ e → KeyAt e key → key ≡ key_of equations needs rooms start_rooms
  unfolding KeyAt
  key_end e key h k = sym (ap (λ (l : List ℕ). digits needs (keep is_open l) key) (range_none e equations h)) ∙ k

  module _ (e key : ℕ) (h : e < equations) (k : KeyAt e key) where
    next : (t : Bool) → is_open e ≡ t → KeyAt (e + 1) (cond t (key * 9 + get_or needs e 0) key)
    unfolding KeyAt
    next t w = go t w ∙ sym (ap (λ (l : List ℕ). digits needs (keep is_open l) key) (range_more e equations h)) ∙ k
      where
        go : (t : Bool) → is_open e ≡ t
            → digits needs (keep is_open (range (e + 1) (equations - (e + 1)))) (cond t (key * 9 + get_or needs e 0) key)
            ≡ digits needs (keep is_open (e ∷ range (e + 1) (equations - (e + 1)))) key
        go true w = rw w
        go false w = rw w

    -- it has no room left
    pub key_finished : get_or rooms e 0 ≤ 0 → KeyAt (e + 1) key
    unfolding is_open
    key_finished z = next false (rw (le-ltb 0 (get_or rooms e 0) z))

    -- it is not begun
    pub key_unbegun : get_or start_rooms e 0 ≤ get_or rooms e 0 → KeyAt (e + 1) key
    unfolding is_open
    key_unbegun z = next false (ap (λ (t : Bool). ltb 0 (get_or rooms e 0) && t) (le-ltb (get_or rooms e 0) (get_or start_rooms e 0) z) ∙ none (ltb 0 (get_or rooms e 0)))
      where
        none : (t : Bool) → (t && false) ≡ false
        none true = refl
        none false = refl

    -- a digit more
    pub key_digit : 0 < get_or rooms e 0 → get_or rooms e 0 < get_or start_rooms e 0 → KeyAt (e + 1) (key * 9 + get_or needs e 0)
    unfolding is_open
    key_digit y z = next true (rw (lt-ltb 0 (get_or rooms e 0) y, lt-ltb (get_or rooms e 0) (get_or start_rooms e 0) z))
