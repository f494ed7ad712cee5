-- `enumeration::enumerate::list_group` meets its contract. The loop's invariant: the cells of the group from a place on, stored behind those already listed, give what
-- all of them give. Rests on the laws of `Storing`. Assumes nothing.
use Prim.Native.Nat.{ℕ}
use mathlib.Core.Path.{ap}
use mathlib.Core.List.{List}
use borrow.Author.Rules.{rules}
use Rattle.lists.proofs.Arrays.{drop_none}
use Rattle.lists.proofs.Storing.{storing_start}
use Rattle.lists.proofs.StoredAndKept.{run_end}
use Rattle.enumeration.specs.Listing.{cells_in_group}
use Rattle.enumeration.proofs.enumerate.list_group.Goals as goal

pub loop-cell-init : goal.loop-cell-init
loop-cell-init c = storing_start (search rules)

pub returns : goal.returns
returns c =
    let loop = c.loop-cell in
    let both = run_end loop.invariant (ap (λ (l : List ℕ). cells_in_group c.args.group_of.now l c.args.group) (drop_none c.args.cells.now loop.cell-index c.loop-cell-test.false)) in
    record { count = both.0; cells = both.1 }
