-- Text as a list of bytes: decimal numbers, what writing a text into a lent buffer leaves, and what is read in a line from a place on. Assumes nothing.
use Rattle.std.specs.Prelude.{◌≡◌, Bool, false, cond, ◌&&◌, ◌||◌, List, [], ◌∷◌, ◌++◌, ℕ, zero, suc, ◌+◌, ◌-◌, ◌*◌, ◌/◌, ◌%◌, ◌<◌, min, max, leb, ltb, eqb, length, get_or, drop}
use Rattle.std.proofs.lemmas.List.Edits.{sets}
use Rattle.text.specs.declared.Text.{Text}
use Rattle.text.specs.declared.Word.{Word}
use Rattle.text.specs.declared.Word.TheVariants.{Number, End, Other}

-- ---- writing

-- a number in decimal, of at most k digits more than one
abbrev pub decimal_up_to : ℕ → ℕ → List ℕ
decimal_up_to zero n = (48 + n % 10) ∷ []
decimal_up_to (suc k) n = cond (ltb n 10) ((48 + n) ∷ []) (decimal_up_to k (n / 10) ++ ((48 + n % 10) ∷ []))

-- a number below 2^64 has at most twenty
unfoldable pub decimal : ℕ → List ℕ
decimal n = decimal_up_to 19 n

-- the text stands in the buffer from `at` on, as far as the buffer goes, and r is the place after it, at most the buffer's length
pub record Written (before : List ℕ) (at : ℕ) (text after : List ℕ) (r : ℕ) : Type 0 where
  pub is : after ≡ sets before at text
  pub next : r ≡ min (length before) (at + length text)

-- a writer has put the text behind what it had written, into the same buffer and as far as that goes
pub record Wrote (before after : Text) (text : List ℕ) : Type 0 where
  pub same_buffer : after.out.ghost_name ≡ before.out.ghost_name
  pub is : after.out.now ≡ sets before.out.now before.len text
  pub next : after.len ≡ max before.len (min (length before.out.now) (before.len + length text))

-- ---- reading

-- a byte that may stand between numbers: a space, a slash, a tab, a carriage return
unfoldable pub is_gap : ℕ → Bool
is_gap b = eqb b 32 || (eqb b 47 || (eqb b 9 || eqb b 13))

abbrev pub is_digit : ℕ → Bool
is_digit b = leb 48 b && leb b 57

-- digits that make the number n were read, and these bytes follow from place `at` on: the number goes on up to the first byte that isn't a digit, which must be a gap
unfoldable pub number_from : ℕ → List ℕ → ℕ → Word
number_from n [] at = Number (min n 65535) at
number_from n (b ∷ l) at = cond (is_digit b) (number_from (n * 10 + (b - 48)) l (at + 1)) (cond (is_gap b) (Number (min n 65535) at) Other)

-- these bytes stand from place `at` on: gaps are skipped
unfoldable pub word_from : List ℕ → ℕ → Word
word_from [] at = End
word_from (b ∷ l) at = cond (is_gap b) (word_from l (at + 1)) (cond (is_digit b) (number_from 0 (b ∷ l) at) Other)

-- what is read in a line from a place on
abbrev pub word_at : List ℕ → ℕ → Word
word_at line at = word_from (drop at line) at

-- the same is read from r on as from `at` on, and no gap stands at r
pub record PastGaps (line : List ℕ) (at r : ℕ) : Type 0 where
  pub same : word_at line r ≡ word_at line at
  pub stops : r < length line → is_gap (get_or line r 0) ≡ false
