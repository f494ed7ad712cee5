-- `put_line` meets its contract: number, space, verdict and the end of the line are one text. Assumes nothing.
use Rattle.record_lines.proofs.LineWritten.{line_written}
use Rattle.record_lines.proofs.put_line.Goals as goal

pub returns : goal.returns
returns c = line_written c.args.number c.args.verdict c.number.ensures c.byte.ensures c.put_verdict.ensures c.byte-2.ensures
