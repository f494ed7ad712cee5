-- The two forms of the pattern answer: refused, and whether a pattern is found, each from what the tests and the search answer. Assumes nothing.
use Rattle.refusals.specs.Refusals.{Accepted}
use Rattle.std.specs.Prelude.{Ok, Err}
use mathlib.Core.Path.{◌≡◌}
use mathlib.Core.Bool.{Bool}
use mathlib.Core.List.{List}
use Prim.Native.Nat.{ℕ}
use Rattle.refusals.specs.declared.Refusal.{Refusal}
use Rattle.refusals.specs.Tests.{pattern_tested}
use Rattle.patterns.specs.Shapes.{pattern_found}
use Rattle.patterns.specs.Answer.{unsolvable_structure}

module _ (rows columns : ℕ) (b : List ℕ) where
  pub refused_answer_lem : {r : Refusal} → pattern_tested rows columns b ≡ Err r → Err r ≡ unsolvable_structure rows columns b
  unfolding unsolvable_structure
  refused_answer_lem h = rw h

  pub searched_answer : {found : Bool} → pattern_tested rows columns b ≡ Accepted → pattern_found rows columns b ≡ found → Ok found ≡ unsolvable_structure rows columns b
  unfolding unsolvable_structure
  searched_answer accepted h = rw (accepted, h)
