-- `subtraction::sweep_left` meets its contract: what is left of the equations stands in fresh arrays, and there the sweeps read it. Rests on MinusLists.
-- Assumes nothing.
use mathlib.Core.Path.{ap, ◌∙◌}
use native.Mathlib.Omega.{arith}
use Rattle.direct.specs.Answers.{swept_lists}
use Rattle.subtraction.proofs.MinusLists.{left_few, left_arrays, left_arrays_read}
use Rattle.subtraction.proofs.sweep_left.Goals as goal

pub left_equations-len-requires : goal.left_equations-len-requires
left_equations-len-requires c = rw c.requires.subtracted record { slots = c.requires.slots; room = omega (arith, left_few c.args.known.now.mines c.args.known.now.cells c.args.set.now.slots c.args.set.now.rests c.args.equations c.requires.slots.few) }

pub swept_cells-requires : goal.swept_cells-requires
swept_cells-requires c =
    let left = rw c.requires.subtracted at c.left_equations-len.ensures in
    left_arrays c.args.known.now.mines c.args.known.now.cells c.args.set.now.slots c.args.set.now.rests c.args.equations c.requires.slots.few c.requires.small _ left.slots_after _ left.value

pub returns : goal.returns
returns c =
    let left = rw c.requires.subtracted at c.left_equations-len.ensures in
    c.swept_cells.ensures ∙ ap swept_lists (left_arrays_read c.args.known.now.mines c.args.known.now.cells c.args.set.now.slots c.args.set.now.rests c.args.equations c.requires.slots.few c.requires.small _ left.slots_after _ left.value _ left.rests_after)
