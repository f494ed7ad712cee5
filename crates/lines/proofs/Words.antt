-- The numbers of a line, word by word. Each number that is read moves the place forward inside the line, so any bound above the bytes left reads all words; so the numbers from a
-- place on are those of the word there and of the places behind it. Rests on `word_advances` of the crate text. Assumes nothing.
use mathlib.Core.Path.{◌≡◌, refl, ap, ◌∙◌}
use Rattle.std.specs.Prelude.{Some, None}
use mathlib.Core.List.{List, []}
use Prim.Native.Nat.{ℕ, zero, suc, ◌+◌, ◌≤◌}
use native.Mathlib.Omega.{arith}
use lib.ListN.{length}
use Rattle.text.specs.declared.Word.{Word}
use Rattle.text.specs.declared.Word.TheVariants.{Number, End, Other}
use Rattle.text.specs.Text.{word_at}
use Rattle.text.proofs.Reading.{word_advances}
use Rattle.lines.specs.Lines.{number_before, after_word, numbers_from, numbers_at}

-- ---- any bound that is large enough reads the same

same_after : (j k : ℕ) (line : List ℕ) (at : ℕ) → ((n next : ℕ) → word_at line at ≡ Number n next → numbers_from j line next ≡ numbers_from k line next)
    → numbers_from (suc j) line at ≡ numbers_from (suc k) line at
same_after j k line at h = go (word_at line at) h
  where
    go : (w : Word) → ((n next : ℕ) → w ≡ Number n next → numbers_from j line next ≡ numbers_from k line next)
        → after_word (numbers_from j line) w ≡ after_word (numbers_from k line) w
    go (Number n next) e = ap (number_before n) (e n next refl)
    go End e = refl
    go Other e = refl

bound_enough : (j k : ℕ) (line : List ℕ) (at : ℕ) → length line ≤ j + at → length line ≤ k + at → numbers_from (suc j) line at ≡ numbers_from (suc k) line at
bound_enough zero k line at f g = same_after zero k line at (λ n next e. absurd (omega (arith, word_advances line at n next e)))
bound_enough (suc j) zero line at f g = same_after (suc j) zero line at (λ n next e. absurd (omega (arith, word_advances line at n next e)))
bound_enough (suc j) (suc k) line at f g =
    same_after (suc j) (suc k) line at
    (λ n next e. let (x, y, z) = word_advances line at n next e in bound_enough j k line next (omega arith) (omega arith))

-- ---- the numbers from a place on, by the word there

module _ (line : List ℕ) (at : ℕ) where
  pub numbers_more : (n next : ℕ) → word_at line at ≡ Number n next → numbers_at line at ≡ number_before n (numbers_at line next)
  unfolding numbers_at
  numbers_more n next e = bound_enough (length line) (suc (length line)) line at (omega arith) (omega arith) ∙ rw e

  pub numbers_end : word_at line at ≡ End → numbers_at line at ≡ Some []
  unfolding numbers_at
  numbers_end e = rw e

  pub numbers_other : word_at line at ≡ Other → numbers_at line at ≡ None
  unfolding numbers_at
  numbers_other e = rw e
