-- `put_found` meets its contract: its six writes are one text. Rests on the law of those writes, `RuleWritten`. Assumes nothing.
use Rattle.std.specs.Prelude.{Ok}
use Rattle.deductions.specs.Answers.{seen}
use Rattle.rule_lines.proofs.RuleWritten.{found_written}
use Rattle.rule_lines.proofs.put_found.Goals as goal

pub returns : goal.returns
returns c =
    found_written (seen (Ok c.args.answer.now) c.args.position.now c.args.safe.now c.args.mines.now)
    c.bytes.ensures c.put_numbers.ensures c.bytes-2.ensures c.put_numbers-2.ensures c.bytes-3.ensures c.put_cells.ensures
