-- `put_no_table` meets its contract: the writes are one text. Assumes nothing.
use Rattle.text.proofs.Writing.{wrote_both}
use Rattle.table_lines.proofs.put_no_table.Goals as goal

pub returns : goal.returns
returns c = wrote_both (wrote_both c.bytes.ensures c.put_refused.ensures) c.byte.ensures
