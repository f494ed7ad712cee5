-- `put_listed` meets its contract: the writes are one text (`TablesWritten`). Assumes nothing.
use Rattle.table_lines.proofs.TablesWritten.{listed_written}
use Rattle.table_lines.proofs.put_listed.Goals as goal

pub returns : goal.returns
returns c =
    listed_written c.args.table.now c.args.groups c.args.solutions
    c.bytes.ensures c.number.ensures c.bytes-2.ensures c.number-2.ensures c.bytes-3.ensures c.put_rows.ensures c.byte.ensures
