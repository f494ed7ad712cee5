-- The turns of the loops that read a line: what is read from place i on, by the byte that stands there. A number may be cut down to 65535 after each digit, since numbers
-- that are equal when cut down stay so with one digit more. And a number that is read ends behind its beginning, inside the line, so a loop over words ends. Rests on the laws of
-- what is left of a list. Assumes nothing.
use Prim.Native.Nat.{ℕ, ◌+◌, ◌-◌, ◌*◌, ◌≤◌, ◌<◌, min}
use mathlib.Core.Path.{◌≡◌, ap, ◌∙◌}
use mathlib.Core.Logic.{inl, inr}
use mathlib.Core.Bool.{true, false}
use mathlib.Core.List.{List, [], ◌∷◌}
use native.Mathlib.Omega.{arith}
use lib.ListN.{length, get_or, drop, length-drop}
use Rattle.lists.proofs.Tests.{Decided, decided}
use Rattle.lists.proofs.Arrays.{drop_more, drop_none}
use Rattle.text.specs.Text.{is_gap, is_digit, number_from, word_from, word_at}
use Rattle.text.specs.declared.Word.TheVariants.{Number, End, Other}

-- ---- numbers cut down to 65535

number_cut : (m n : ℕ) (l : List ℕ) (at : ℕ) → min m 65535 ≡ min n 65535 → number_from m l at ≡ number_from n l at
unfolding number_from
number_cut m n [] at e = ap (λ (k : ℕ). Number k at) e
number_cut m n (b ∷ l) at e =
    rw (e, number_cut (m * 10 + (b - 48)) (n * 10 + (b - 48)) l (at + 1) (omega arith))

-- ---- what is read where a byte stands

module _ (line : List ℕ) (i : ℕ) (h : i < length line) where
  pub word_gap : is_gap (get_or line i 0) ≡ true → word_at line (i + 1) ≡ word_at line i
  unfolding word_from
  word_gap e = rw (drop_more line i 0 h, e)

  pub word_number : is_gap (get_or line i 0) ≡ false → is_digit (get_or line i 0) ≡ true → number_from 0 (drop i line) i ≡ word_at line i
  unfolding word_from
  word_number e d = rw (drop_more line i 0 h, e, d)

  pub word_other : is_gap (get_or line i 0) ≡ false → is_digit (get_or line i 0) ≡ false → Other ≡ word_at line i
  unfolding word_from
  word_other e d = rw (drop_more line i 0 h, e, d)

  module _ (n : ℕ) (small : n ≤ 65535) where
    -- one digit more, and the number cut down
    pub number_digit : (m : ℕ) → is_digit (get_or line i 0) ≡ true → m ≡ min (n * 10 + (get_or line i 0 - 48)) 65535
        → number_from m (drop (i + 1) line) (i + 1) ≡ number_from n (drop i line) i
    unfolding number_from
    number_digit m d e =
        number_cut m (n * 10 + (get_or line i 0 - 48)) (drop (i + 1) line) (i + 1) (omega arith)
        ∙ rw (drop_more line i 0 h, d)

    pub number_gap : is_digit (get_or line i 0) ≡ false → is_gap (get_or line i 0) ≡ true → Number n i ≡ number_from n (drop i line) i
    unfolding number_from
    number_gap d e = let m : min n 65535 ≡ n = omega arith in rw (drop_more line i 0 h, d, e, m)

    pub number_other : is_digit (get_or line i 0) ≡ false → is_gap (get_or line i 0) ≡ false → Other ≡ number_from n (drop i line) i
    unfolding number_from
    number_other d e = rw (drop_more line i 0 h, d, e)

-- ---- what is read at the line's end

module _ (line : List ℕ) (i : ℕ) (h : length line ≤ i) where
  pub word_end : End ≡ word_at line i
  unfolding word_from
  word_end = rw (drop_none line i h)

  pub number_end : (n : ℕ) → n ≤ 65535 → Number n i ≡ number_from n (drop i line) i
  unfolding number_from
  number_end n small = let m : min n 65535 ≡ n = omega arith in rw (drop_none line i h, m)

-- ---- where a number that is read ends: behind its beginning, and inside the line

number_end_place : (n : ℕ) (l : List ℕ) (at m r : ℕ) → number_from n l at ≡ Number m r → (m ≤ 65535) × (at ≤ r) × (r ≤ at + length l)
unfolding number_from
number_end_place n [] at m r h =
    let e : min n 65535 ≡ m = cc in
    let f : at ≡ r = cc in
    (omega arith, omega arith, omega arith)
number_end_place n (b ∷ l) at m r h = go (decided (is_digit b)) (decided (is_gap b)) (number_end_place (n * 10 + (b - 48)) l (at + 1) m r)
  where
    go : Decided (is_digit b) → Decided (is_gap b) → (number_from (n * 10 + (b - 48)) l (at + 1) ≡ Number m r → (m ≤ 65535) × (at + 1 ≤ r) × (r ≤ at + 1 + length l))
        → (m ≤ 65535) × (at ≤ r) × (r ≤ at + length (b ∷ l))
    go (inl d) g ih = let (x, y, z) = ih (rw d at h) in (x, omega arith, omega arith)
    go (inr d) (inl g) ih =
        let k : Number (min n 65535) at ≡ Number m r = rw (d, g) at h in
        let e : min n 65535 ≡ m = cc in
        let f : at ≡ r = cc in
        (omega arith, omega arith, omega arith)
    go (inr d) (inr g) ih =
        let k : Other ≡ Number m r = rw (d, g) at h in
        let z : ◌≡◌ {A = ℕ} 0 1 = cc in
        absurd (omega arith)

word_end_place : (l : List ℕ) (at m r : ℕ) → word_from l at ≡ Number m r → (m ≤ 65535) × (at < r) × (r ≤ at + length l)
unfolding word_from number_from
word_end_place [] at m r h = let z : ◌≡◌ {A = ℕ} 0 1 = cc in absurd (omega arith)
word_end_place (b ∷ l) at m r h = go (decided (is_gap b)) (decided (is_digit b)) (word_end_place l (at + 1) m r)
  where
    go : Decided (is_gap b) → Decided (is_digit b) → (word_from l (at + 1) ≡ Number m r → (m ≤ 65535) × (at + 1 < r) × (r ≤ at + 1 + length l))
        → (m ≤ 65535) × (at < r) × (r ≤ at + length (b ∷ l))
    go (inl g) d ih = let (x, y, z) = ih (rw g at h) in (x, omega arith, omega arith)
    go (inr g) (inl d) ih =
        let (x, y, z) = number_end_place (0 * 10 + (b - 48)) l (at + 1) m r (rw (g, d) at h) in
        (x, omega arith, omega arith)
    go (inr g) (inr d) ih =
        let k : Other ≡ Number m r = rw (g, d) at h in
        let z : ◌≡◌ {A = ℕ} 0 1 = cc in
        absurd (omega arith)

pub word_advances : (line : List ℕ) (at m r : ℕ) → word_at line at ≡ Number m r → (m ≤ 65535) × (at < r) × (r ≤ length line)
word_advances line at m r h =
    let (x, y, z) = word_end_place (drop at line) at m r h in
    (x, y, omega (arith, length-drop at line))
