-- `subtraction::minus_cells` meets its contract: what the sweeps find in all that its own marks leave goes behind its own lists. There is room for both, since
-- they are cells of the set. Rests on the laws of the rule's lists on a set. Assumes nothing.
use Rattle.blocks.proofs.Behind.{blocks_few}
use Rattle.direct.proofs.WholeSets.{equations_of_all, slots_of_all}
use Rattle.subtraction.proofs.MinusLists.{both_fit, both_answered}
use Rattle.subtraction.proofs.minus_cells.Goals as goal

pub next_equation-equations-requires : goal.next_equation-equations-requires
next_equation-equations-requires c = blocks_few c.args.set c.requires.whole

pub sweep_left-more-requires : goal.sweep_left-more-requires
sweep_left-more-requires c = record { slots = slots_of_all c.args.set c.requires.whole _ c.next_equation-equations.ensures; small = rw (equations_of_all c.args.set c.requires.whole _ c.next_equation-equations.ensures) c.requires.whole.fits.small; subtracted = c.subtract-own.ensures.subtracted }

pub followed_by-requires : goal.followed_by-requires
followed_by-requires c = both_fit c.args.set c.requires.whole c.requires.ready c.subtract-own.result c.subtract-own.ensures _ c.next_equation-equations.ensures c.sweep_left-more.result c.sweep_left-more.ensures

pub returns : goal.returns
returns c =
    both_answered c.args.set c.requires.whole c.requires.ready c.subtract-own.result c.subtract-own.ensures _ c.next_equation-equations.ensures c.sweep_left-more.result c.sweep_left-more.ensures
    _ c.followed_by.ensures
