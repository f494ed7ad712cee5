-- `put_block` meets its contract: what the call leaves in the fresh table is printed with its answer, whose rows stand inside the table (`TablesWritten`).
-- Assumes nothing.
use Rattle.table_lines.proofs.TablesWritten.{seen_within, block_written}
use Rattle.table_lines.proofs.put_block.Goals as goal

pub put_table-requires : goal.put_table-requires
put_table-requires c = seen_within _ _ _ _ _ (rw c.flat.ensures at c.cal_all_solution-answer.ensures.table_after)

pub returns : goal.returns
returns c = block_written _ _ _ _ (rw c.flat.ensures at c.cal_all_solution-answer.ensures.table_after) c.put_table.ensures
