-- `rows_fit` meets its contract: of an allowance of one row more than there is room for something is left exactly where the rows have room. Rests on TableRoom
-- and on what `spend` ensures. Assumes nothing.
use Prim.Native.Nat.{ℕ}
use mathlib.Core.Path.{ap, ◌∙◌}
use native.Mathlib.Omega.{arith}
use lib.Dec.{ltb}
use lib.ListN.{length-replicate}
use Rattle.tables.proofs.TableRoom.{most_small, left_where_room}
use Rattle.tables.proofs.rows_fit.Goals as goal

pub overflow_add-most : goal.overflow_add-most
overflow_add-most c = omega (arith, most_small c.args.room c.args.grouped.now.groups c.requires.groups_nonzero.1)

pub spend-left-requires : goal.spend-left-requires
spend-left-requires c = let first = c.at_first-unmet.ensures in record { ordered = c.requires.ordered; state = rw (first.0, first.1) c.requires.state; at_le_groups = (omega arith, length-replicate {A = ℕ} 1024 0, omega arith) }

pub returns : goal.returns
returns c = let first = c.at_first-unmet.ensures in ap (ltb 0) (rw (first.0, first.1) at c.spend-left.ensures.value) ∙ left_where_room c.args.room c.args.grouped.now.groups _ c.requires.groups_nonzero.0
