-- `cal_all_solution` meets its contract: a refusal by the tests ends the call; else the frontier is read, and the table of the block asked for is put; the other
-- clause is the law of the call, from this equation. Rests on TableCalls, what is told of a position that the tests accept, and the contracts of the calls. Assumes nothing.
use mathlib.Core.Path.{◌≡◌, sym, ap, ◌∙◌}
use mathlib.Core.List.{List}
use Rattle.std.proofs.lemmas.Result.{err_from_is_err_and}
use Rattle.grid.specs.Window.{Board}
use Rattle.refusals.proofs.Accepted.{accepted_position}
use Rattle.blocks.specs.Blocks.{Block}
use Rattle.frontier.proofs.ReadFrontier.{read_whole, read_frontier}
use Rattle.frontier.proofs.CombinableBlocks.{read_combinable}
use Rattle.tables.specs.Tables.{block_asked, table_seen, cal_all_solution}
use Rattle.tables.proofs.TableCalls.{tests_refuse, tests_accept, table_call}
use Rattle.tables.proofs.cal_all_solution.Goals as goal
use Rattle.tables.proofs.cal_all_solution.Goals.{In_ok-test_position}

-- a position that the tests accept is a board
board : (c : In_ok-test_position) → (let a = c.args in Board a.position.now a.size.rows a.size.columns)
board c = (accepted_position _ _ _ (sym c.in_ok-test_position.ensures)).board

pub returns-in_err-test_position : goal.returns-in_err-test_position
returns-in_err-test_position c =
    let a = c.args in
    let p = err_from_is_err_and c.from_residual.result c.from_residual.ensures.1 in
    let is : table_seen c.from_residual.result a.table.now ≡ cal_all_solution a.size.edgeless a.size.rows a.size.columns a.position.now a.block a.table.now =
    rw (p.1, p.2) (tests_refuse a.size.edgeless a.size.rows a.size.columns a.position.now a.block a.table.now _ (sym c.in_err-test_position.ensures)) in
    record { table_after = is; listed = table_call a.size.edgeless a.size.rows a.size.columns a.position.now a.block a.table.now _ _ is }

pub read_blocks-set-requires : goal.read_blocks-set-requires
read_blocks-set-requires c = board c

pub put_asked-requires : goal.put_asked-requires
put_asked-requires c =
    let b = board (goal.at.put_asked-requires c).In_ok-test_position in
    record { whole = read_whole _ _ _ _ b _ c.read_blocks-set.ensures; combinable = read_combinable _ _ _ _ b _ c.read_blocks-set.ensures }

pub returns : goal.returns
returns c =
    let a = c.args in
    let b = board (goal.at.returns c).In_ok-test_position in
    let is = c.put_asked.ensures
    ∙ ap (λ (bs : List Block). block_asked bs a.block a.table.now) (read_frontier _ _ _ _ b _ c.read_blocks-set.ensures)
    ∙ tests_accept a.size.edgeless a.size.rows a.size.columns a.position.now a.block a.table.now (sym c.in_ok-test_position.ensures) in
    record { table_after = is; listed = table_call a.size.edgeless a.size.rows a.size.columns a.position.now a.block a.table.now _ _ is }
