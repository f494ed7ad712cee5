-- Blocks of equations (SPECIFICATION 7.2): a block has its closed cells in an order of its own and its equations in order, the
-- cells of an equation in the block's order. A remainder is from -8 to 8; `rest` is the remainder plus 8. Assumes nothing.
use Rattle.std.specs.Prelude.{List, ℕ}
use Rattle.fitting.specs.Equations.{Equation}

pub record BlockEquation : Type 0 where
  pub cells : List ℕ
  pub rest : ℕ

pub record Block : Type 0 where
  pub cells : List ℕ
  pub equations : List BlockEquation

-- what an equation of a block says: its mines and 8 are `rest`
abbrev pub says : BlockEquation → Equation
says e = record { cells = e.cells; known = 8; number = e.rest }
