-- `blocks::BlockSet::cells_of` meets its contract: a part of the cells is what is read at its places one by one. Assumes nothing.
use mathlib.Core.Path.{sym}
use native.Mathlib.Omega.{arith}
use Prim.Native.Nat.{◌-◌}
use lib.ListN.{length}
use mathlib.Core.Path.{◌≡◌}
use borrow.Author.Rules.{rules}
use Rattle.lists.proofs.Joined.{read_range}
use Rattle.blocks.specs.Places.{cells_from}
use Rattle.blocks.proofs.BlockSet.cells_of.Goals as goal

pub returns : goal.returns
unfolding cells_from
returns c =
    let a = c.args.bounds in
    let whole : length c.args.self.now.cells ≡ 1024 = search rules in
    sym (read_range c.args.self.now.cells 0 a.first_cell (a.end_cell - a.first_cell) (omega arith))
