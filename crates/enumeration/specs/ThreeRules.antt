-- The three rules at a position, weakest first (SPECIFICATION 9.1): each reads a fresh frontier, and the next is asked where
-- one finds nothing. Assumes nothing.
use Rattle.std.specs.Prelude.{List, ℕ}
use Rattle.fitting.specs.Passes.{GradedCells, or_else}
use Rattle.direct.specs.Found.{rule_of}
use Rattle.direct.specs.Direct.{direct}
use Rattle.subtraction.specs.Minus.{subtraction}
use Rattle.enumeration.specs.Enumeration.{enumerated}

abbrev pub three_rules : (ℕ → List ℕ) → List ℕ → GradedCells
three_rules near = or_else (rule_of near direct 1) (or_else (rule_of near subtraction 2) (rule_of near enumerated 3))
