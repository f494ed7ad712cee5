-- `put_rows` meets its contract: the first row and those behind it are one text, and no rows are a dash (`TablesWritten`). Assumes nothing.
use native.Mathlib.Omega.{arith}
use Rattle.text.proofs.Writing.{wrote_both}
use Rattle.table_lines.proofs.TablesWritten.{row_within, rows_none, rows_some}
use Rattle.table_lines.proofs.put_rows.Goals as goal

pub returns-then-solutions-eq0 : goal.returns-then-solutions-eq0
returns-then-solutions-eq0 c = rw (rows_none c.args.table.now c.args.groups c.args.solutions (omega arith)) c.bytes.ensures

pub put_row-requires : goal.put_row-requires
put_row-requires c = row_within c.args.solutions c.args.groups 0 _ (omega arith) c.requires

pub returns : goal.returns
returns c = rw (rows_some c.args.table.now c.args.groups c.args.solutions (omega arith)) (wrote_both c.put_row.ensures c.put_more_rows.ensures)
