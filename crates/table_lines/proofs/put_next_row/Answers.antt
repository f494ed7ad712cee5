-- `put_next_row` meets its contract: the slash and the row are one text. Assumes nothing.
use Rattle.text.proofs.Writing.{wrote_both}
use Rattle.table_lines.proofs.put_next_row.Goals as goal

pub returns : goal.returns
returns c = wrote_both c.bytes.ensures c.put_row.ensures
