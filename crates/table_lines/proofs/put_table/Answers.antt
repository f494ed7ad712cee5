-- `put_table` meets its contract: each of its two ways writes the text that the definition has for the answer. Assumes nothing.
use Rattle.refusals.proofs.FirstFailure.{refusal_not_zero}
use Rattle.table_lines.specs.Tables.{table_text}
use Rattle.table_lines.proofs.put_table.Goals as goal

pub put_listed-requires : goal.put_listed-requires
put_listed-requires c = rw c.in-Ok.is at c.requires

pub returns-in-Err : goal.returns-in-Err
unfolding table_text
returns-in-Err c = rw (c.in-Err.is, refusal_not_zero) c.put_no_table.ensures

pub returns-in-Ok : goal.returns-in-Ok
returns-in-Ok c = rw c.in-Ok.is c.put_listed.ensures
