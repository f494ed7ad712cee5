-- The answer of the pattern call: refusals 1 to 3 of SPECIFICATION 3.1, else whether a pattern is found. It looks at mines only. Assumes nothing.
use Rattle.std.specs.Prelude.{Bool, true, false, List, [], ◌∷◌, ℕ, Result, Ok, Err}
use Rattle.refusals.specs.declared.Refusal.{Refusal}
use Rattle.refusals.specs.Refusals.{Tested, refusal_number}
use Rattle.refusals.specs.Tests.{pattern_tested}
use Rattle.patterns.specs.Shapes.{pattern_found}

-- what the call answers once its tests have
abbrev pub pattern_after_tests : Tested → Bool → Result Bool Refusal
pattern_after_tests (Ok _) found = Ok found
pattern_after_tests (Err r) found = Err r

-- what unsolvable_structure answers
unfoldable pub unsolvable_structure : ℕ → ℕ → List ℕ → Result Bool Refusal
unsolvable_structure rows columns b = pattern_after_tests (pattern_tested rows columns b) (pattern_found rows columns b)

-- the number of an answer (SPECIFICATION 3.1): 0, or the refusal's
abbrev pub pattern_number : Result Bool Refusal → ℕ
pattern_number (Err r) = refusal_number r
pattern_number (Ok false) = 0
pattern_number (Ok true) = 0

-- and its values: 1 where a pattern is found, else 0; a refusal has none
abbrev pub pattern_values : Result Bool Refusal → List ℕ
pattern_values (Err r) = []
pattern_values (Ok false) = 0 ∷ []
pattern_values (Ok true) = 1 ∷ []
