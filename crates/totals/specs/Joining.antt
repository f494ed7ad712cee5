-- Cited by no public contract. Sets of numbers kept in arrays of bytes: 1 for a number of the set, else 0. The sets of several blocks stand one after another
-- in one array, and the sums of sets stand in an array of their own. Assumes nothing.
use Rattle.std.specs.Prelude.{◌≡◌, Bool, not, ◌&&◌, List, ◌∷◌, map, ℕ, ◌+◌, ◌-◌, ◌≤◌, ◌<◌, leb, ltb, eqb, length, get_or}
use Rattle.lists.specs.Lists.{range, keep}
use Rattle.blocks.specs.BlockSets.{begin_at}
use Rattle.totals.specs.Totals.{sums_to}

-- ---- sets in an array

-- a set in an array of its own holds a number
abbrev pub holds : List ℕ → ℕ → Bool
holds set t = eqb (get_or set t 0) 1

-- the set that stands between two places of an array
abbrev pub set_at : List ℕ → ℕ → ℕ → ℕ → Bool
set_at counts first end t = ltb (first + t) end && eqb (get_or counts (first + t) 0) 1

-- block j's counts: from 0 up to its cells, so each block has a place more than cells, and j such places stand before its own
abbrev pub counts_at : List ℕ → List ℕ → ℕ → ℕ → Bool
counts_at counts ends j = set_at counts (begin_at ends j + j) (get_or ends j 0 + j + 1)

-- those of the blocks but one; none is left out where `but` is not below `blocks`
abbrev pub counts_but : List ℕ → List ℕ → ℕ → ℕ → List (ℕ → Bool)
counts_but counts ends but blocks = map (counts_at counts ends) (keep (λ j. not (eqb j but)) (range 0 blocks))

-- the ends of blocks stand in order and on the board
pub record EndsInOrder (ends : List ℕ) (blocks : ℕ) : Type 0 where
  pub few : blocks ≤ 1024
  pub rising : (j : ℕ) → j < blocks → (begin_at ends j ≤ get_or ends j 0) × (get_or ends j 0 ≤ 1024)

-- ---- sums in an array

-- an array has the sums of some sets, up to `rest`
pub record SumsAre (rest : ℕ) (sets : List (ℕ → Bool)) (sums : List ℕ) : Type 0 where
  pub whole : length sums ≡ 1025
  pub at : (n : ℕ) → n ≤ rest → eqb (get_or sums n 0) 1 ≡ sums_to sets n

-- one array has the sums of what another has the sums of and of one set more, whatever sets those are
pub record Joined (rest : ℕ) (set before after : List ℕ) : Type 0 where
  pub whole : length after ≡ 1025
  pub sums : (sets : List (ℕ → Bool)) → SumsAre rest sets before → SumsAre rest (holds set ∷ sets) after

-- the numbers below `end` that are t more than one of a set
abbrev pub raised : List ℕ → ℕ → ℕ → ℕ → Bool
raised set t end n = ltb n end && (leb t n && eqb (get_or set (n - t) 0) 1)
