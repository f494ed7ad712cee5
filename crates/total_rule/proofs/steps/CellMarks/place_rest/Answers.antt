-- `total_rule::steps::CellMarks::place_rest` meets its contract: the sums of all blocks and the other inside cells tell what an inside cell may be. Rests on the
-- contracts of the calls. Assumes nothing.
use mathlib.Core.Path.{refl, ap, ◌∙◌}
use native.Mathlib.Omega.{arith}
use Prim.Native.Nat.{◌-◌, ◌≤◌}
use Rattle.lists.specs.Lists.{bit}
use Rattle.total_rule.proofs.ToldCells.{filled_value, rest_some, rest_none}
use Rattle.total_rule.proofs.steps.CellMarks.place_rest.Goals as goal
use Rattle.total_rule.proofs.steps.CellMarks.place_rest.Goals.{else-rest-gt0, then-rest-gt0}

pub returns-then-inside-eq0 : goal.returns-then-inside-eq0
returns-then-inside-eq0 c = record { filled = λ h. absurd (omega (arith, c.if-inside-eq0.true)); filled_2 = λ h. absurd (omega (arith, c.if-inside-eq0.true)); mined_unchanged = λ h. (refl, refl) }

pub returns : goal.returns
returns c =
    let sums = c.sums_but-sums.ensures in
    let less : c.args.rest - 1 ≤ c.args.rest = omega arith in
    let all : c.args.rest ≤ c.args.rest = omega arith in record {
      filled = λ h. filled_value
          (elim c.if-rest-gt0.branch [
            | then-rest-gt0 w ↦ w.mine-is ∙ w.bit_at-mine.ensures ∙ ap bit (sums.at (c.args.rest - 1) less) ∙ rest_some c.args.rest _ w.if-rest-gt0.true
            | else-rest-gt0 w ↦ w.mine-is ∙ rest_none c.args.rest _ (omega (arith, w.if-rest-gt0.false))
          ])
          c.tell_inside.ensures;
      filled_2 = λ h. filled_value (c.bit_at.ensures ∙ ap bit (sums.at c.args.rest all)) c.tell_inside-2.ensures;
      mined_unchanged = λ h. absurd (omega (arith, h, c.if-inside-eq0.false));
    }
