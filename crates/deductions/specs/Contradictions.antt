-- Refusal 6 of the calls in words of the position: no block, no group and no order (SPECIFICATION 8.3, 8.6). `near` gives the neighbours of a cell;
-- p, s and m are the position and the lists as they were lent, and `number` is 0 or the refusal's number. What the direct rule finds at a position stands
-- in AtPosition of the crate direct. Of subtraction it is said only one way: a block that it empties is dropped, its remainders unread, so that blocks
-- would have to be named. Assumes nothing.
use Rattle.std.specs.Prelude.{◌≡◌, ◌↔◌, Bool, true, List, ℕ, length}
use Rattle.grid.specs.Cells.{shows}
use Rattle.grid.specs.Window.{neighbours}
use Rattle.refusals.specs.Tests.{deduction_tested}
use Rattle.sources.specs.Sources.{is_source}
use Rattle.direct.specs.AtPosition.{mines_with, is_contradictory_at}
use Rattle.refusals.specs.Refusals.{Accepted}

-- mines placed on the closed cells as f says give each open cell with a closed neighbour its number
abbrev pub Placing : (ℕ → List ℕ) → List ℕ → (ℕ → Bool) → Type 0
Placing near p f = (d : ℕ) → is_source near p d ≡ true → mines_with near p f d ≡ shows p d

-- no mines do
abbrev pub NoPlacing : (ℕ → List ℕ) → List ℕ → Type 0
NoPlacing near p = (f : ℕ → Bool) → Placing near p f → ⊥

-- tests 1 to 3 pass of a call that is lent the position p and the lists s and m
abbrev pub TestsPass : ℕ → ℕ → List ℕ → List ℕ → List ℕ → Type 0
TestsPass rows columns p s m = deduction_tested rows columns p (length s) (length m) ≡ Accepted

-- solve_direct refuses with 6 exactly where the tests pass and an open cell with a closed neighbour shows fewer than the mines known and found beside it
abbrev pub DirectRefuses : Bool → ℕ → ℕ → List ℕ → List ℕ → List ℕ → ℕ → Type 0
DirectRefuses edgeless rows columns p s m number = (number ≡ 6) ↔ (TestsPass rows columns p s m × (is_contradictory_at (neighbours edgeless rows columns) p ≡ true))

-- solve_minus only where the tests pass and no mines on the closed cells give each open cell with a closed neighbour its number
abbrev pub MinusRefuses : Bool → ℕ → ℕ → List ℕ → List ℕ → List ℕ → ℕ → Type 0
MinusRefuses edgeless rows columns p s m number = number ≡ 6 → TestsPass rows columns p s m × NoPlacing (neighbours edgeless rows columns) p

-- solve_enumerate exactly there
abbrev pub EnumerateRefuses : Bool → ℕ → ℕ → List ℕ → List ℕ → List ℕ → ℕ → Type 0
EnumerateRefuses edgeless rows columns p s m number = (number ≡ 6) ↔ (TestsPass rows columns p s m × NoPlacing (neighbours edgeless rows columns) p)
