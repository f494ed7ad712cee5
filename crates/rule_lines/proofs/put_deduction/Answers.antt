-- `put_deduction` meets its contract: by the answer it is a refusal's text, or what was found with the blocks left behind it. Assumes nothing.
use Rattle.deductions.specs.Answers.{seen}
use Rattle.text.proofs.Writing.{wrote_both}
use Rattle.rule_lines.proofs.RuleWritten.{deduction_written}
use Rattle.rule_lines.proofs.put_deduction.Goals as goal

pub returns-in-Err : goal.returns-in-Err
returns-in-Err c =
    let a = c.args in
    deduction_written a.rule (seen a.answer a.position.now a.safe.now a.mines.now) c.in-Err.is c.put_refused.ensures

pub put_found-requires : goal.put_found-requires
put_found-requires c = rw c.in-Ok.is at c.requires

pub put_left-requires : goal.put_left-requires
put_left-requires c = c.requires.blocks_whole c.in-Ok.is

pub returns-in-Ok : goal.returns-in-Ok
returns-in-Ok c =
    let a = c.args in
    deduction_written a.rule (seen a.answer a.position.now a.safe.now a.mines.now) c.in-Ok.is (rw c.in-Ok.is (wrote_both c.put_found.ensures c.put_left.ensures))
