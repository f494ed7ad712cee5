-- Lowest number first where several apply (SPECIFICATION 3.2), of each kind of call: its tests stand in the order of their numbers, so every other test
-- that fails has a number that isn't lower than the refusal's. Rests on `refused_lowest`. Assumes nothing.
use Rattle.std.specs.Prelude.{Err}
use mathlib.Core.Path.{◌≡◌, refl}
use mathlib.Core.Bool.{Bool, true}
use mathlib.Core.List.{List}
use Prim.Native.Nat.{ℕ}
use Rattle.refusals.specs.declared.Refusal.{Refusal}
use Rattle.refusals.specs.Refusals.{refusal_number}
use Rattle.refusals.specs.Tests.{board_tests, board_tested, position_tests, position_tested, deduction_tests, deduction_tested, pattern_tests, pattern_tested, bbbv_tests, bbbv_tested}
use Rattle.refusals.proofs.FirstFailure.{fails_from, refused_lowest}

pub board_lowest : (edgeless : Bool) (rows columns row column : ℕ) (b lent : List ℕ) (r : Refusal) → board_tested edgeless rows columns row column b lent ≡ Err r
    → fails_from (refusal_number r) (board_tests edgeless rows columns row column b lent) ≡ true
unfolding board_tested
board_lowest edgeless rows columns row column b lent r h = refused_lowest (board_tests edgeless rows columns row column b lent) r refl h

pub position_lowest : (rows columns : ℕ) (p : List ℕ) (r : Refusal) → position_tested rows columns p ≡ Err r
    → fails_from (refusal_number r) (position_tests rows columns p) ≡ true
unfolding position_tested
position_lowest rows columns p r h = refused_lowest (position_tests rows columns p) r refl h

pub deduction_lowest : (rows columns : ℕ) (p : List ℕ) (s m : ℕ) (r : Refusal) → deduction_tested rows columns p s m ≡ Err r
    → fails_from (refusal_number r) (deduction_tests rows columns p s m) ≡ true
unfolding deduction_tested
deduction_lowest rows columns p s m r h = refused_lowest (deduction_tests rows columns p s m) r refl h

pub pattern_lowest : (rows columns : ℕ) (b : List ℕ) (r : Refusal) → pattern_tested rows columns b ≡ Err r
    → fails_from (refusal_number r) (pattern_tests rows columns b) ≡ true
unfolding pattern_tested
pattern_lowest rows columns b r h = refused_lowest (pattern_tests rows columns b) r refl h

pub bbbv_lowest : (edgeless : Bool) (rows columns : ℕ) (b : List ℕ) (r : Refusal) → bbbv_tested edgeless rows columns b ≡ Err r
    → fails_from (refusal_number r) (bbbv_tests edgeless rows columns b) ≡ true
unfolding bbbv_tested
bbbv_lowest edgeless rows columns b r h = refused_lowest (bbbv_tests edgeless rows columns b) r refl h
