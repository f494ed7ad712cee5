-- `put_verdict` meets its contract: the writes of each of its two ways are the verdict's text, one behind the other. Assumes nothing.
use Rattle.record_lines.proofs.LineWritten.{refused_written, judged_written}
use Rattle.record_lines.proofs.put_verdict.Goals as goal

pub returns-in-Err : goal.returns-in-Err
returns-in-Err c = refused_written c.in-Err.is c.put_refused.ensures

pub returns-in-Ok : goal.returns-in-Ok
returns-in-Ok c =
    judged_written c.in-Ok.is
    c.put_word.ensures c.number.ensures c.byte.ensures c.number-in-Ok.ensures c.byte-in-Ok.ensures c.number-in-Ok-2.ensures
