-- The answer of the 3BV call: refusals 1, 2, 3 and 5 of SPECIFICATION 3.1, else the number. Assumes nothing.
use Rattle.std.specs.Prelude.{Bool, List, [], ◌∷◌, ℕ, Result, Ok, Err}
use Rattle.grid.specs.Window.{neighbours}
use Rattle.refusals.specs.declared.Refusal.{Refusal}
use Rattle.refusals.specs.Refusals.{Tested, refusal_number}
use Rattle.refusals.specs.Tests.{bbbv_tested}
use Rattle.bbbv.specs.Openings.{bbbv}

-- what the call answers once its tests have
abbrev pub bbbv_after_tests : Tested → ℕ → Result ℕ Refusal
bbbv_after_tests (Ok _) n = Ok n
bbbv_after_tests (Err r) n = Err r

-- what cal_bbbv answers
unfoldable pub cal_bbbv : Bool → ℕ → ℕ → List ℕ → Result ℕ Refusal
cal_bbbv edgeless rows columns b = bbbv_after_tests (bbbv_tested edgeless rows columns b) (bbbv (neighbours edgeless rows columns) b)

-- the number of an answer (SPECIFICATION 3.1): 0, or the refusal's
abbrev pub bbbv_number : Result ℕ Refusal → ℕ
bbbv_number (Err r) = refusal_number r
bbbv_number (Ok n) = 0

-- and its values: the 3BV; a refusal has none
abbrev pub bbbv_values : Result ℕ Refusal → List ℕ
bbbv_values (Err r) = []
bbbv_values (Ok n) = n ∷ []
