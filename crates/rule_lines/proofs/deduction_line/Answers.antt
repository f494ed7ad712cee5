-- `deduction_line` meets its contract: the call is made on the line's cells, and what it leaves there is printed with its answer, which can be read (`ReadableCalls` of the
-- crate deductions). Assumes nothing.
use mathlib.Core.Path.{◌≡◌, sym, ◌∙◌}
use native.Mathlib.Omega.{arith}
use lib.ListN.{replicate, length-take}
use Rattle.std.specs.Prelude.{Some}
use Rattle.lines.specs.Lines.{line_of}
use Rattle.lines.proofs.CellsSoFar.{line_fits}
use Rattle.deductions.proofs.ReadableCalls.{call_readable}
use Rattle.rule_lines.specs.Deductions.{deduction_line}
use Rattle.rule_lines.proofs.deduction_line.Goals as goal
use Rattle.rule_lines.proofs.deduction_line.Goals.{In-Some}

-- the line was read
read : (c : In-Some) → line_of c.args.line.now ≡ Some c.in-Some.read
read c = sym c.read_line.ensures ∙ c.in-Some.is

pub returns-in_default : goal.returns-in_default
unfolding deduction_line
returns-in_default c = rw (sym c.read_line.ensures ∙ c.in_default.is) c.put_unreadable.ensures

pub slice_bounds-cells-end : goal.slice_bounds-cells-end
slice_bounds-cells-end c = (line_fits _ _ (read (goal.at.slice_bounds-cells-end c).In-Some)).0

pub slice_bounds-position-end : goal.slice_bounds-position-end
slice_bounds-position-end c = simp length-take (omega (arith, (line_fits _ _ (read (goal.at.slice_bounds-position-end c).In-Some)).0))

pub put_deduction-requires : goal.put_deduction-requires
put_deduction-requires c = rw c.deduce-answer.ensures.mines_after (call_readable c.args.rule _ _ _ _ (replicate 1024 0) (replicate 1024 0))

pub returns : goal.returns
unfolding deduction_line
returns c = let told = rw c.flat-size.ensures at c.deduce-answer.ensures.mines_after in rw (read (goal.at.returns c).In-Some, ← told) c.put_deduction.ensures
