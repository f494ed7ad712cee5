-- `subtraction::subtract` meets its contract: the marks of all pairs are listed, and the cells that either marks are known. Rests on the laws of the rule's own
-- lists on a set. Assumes nothing.
use native.Mathlib.Omega.{arith}
use Rattle.blocks.specs.BlockSets.{blocks_of}
use Rattle.blocks.proofs.Behind.{blocks_held, blocks_few}
use Rattle.blocks.proofs.Standing.{arrays_in}
use Rattle.subtraction.proofs.ReadyBlocks.{all_equations_once}
use Rattle.subtraction.proofs.SetPlaces.{parts, slots_once}
use Rattle.subtraction.proofs.MarkedLists.{mines_fit, safe_fit, subtracted}
use Rattle.subtraction.proofs.subtract.Goals as goal

-- ---- the needs
pub subtract_blocks-marks-requires : goal.subtract_blocks-marks-requires
subtract_blocks-marks-requires c =
    let set = c.args.set.now in
    let whole = c.requires.whole in record {
      few = blocks_few set whole;
      slots = λ b h. (
        (arrays_in set whole b (omega (arith, blocks_held set whole))).in_slots,
        slots_once set whole (all_equations_once (blocks_of set) c.requires.ready) b h,
      );
    }

pub list_blocks-requires : goal.list_blocks-requires
list_blocks-requires c =
    let marks = c.subtract_blocks-marks in
    record { parts = parts c.args.set.now c.requires.whole; room = safe_fit c.args.set.now c.requires.whole c.requires.ready marks.result.mines marks.result.safe marks.ensures.mines marks.ensures.safe }

pub list_blocks-requires-2 : goal.list_blocks-requires-2
list_blocks-requires-2 c =
    let marks = c.subtract_blocks-marks in
    record { parts = parts c.args.set.now c.requires.whole; room = mines_fit c.args.set.now c.requires.whole c.requires.ready marks.result.mines marks.result.safe marks.ensures.mines marks.ensures.safe }

pub returns : goal.returns
returns c =
    let marks = c.subtract_blocks-marks in
    subtracted c.args.set.now c.requires.whole c.requires.ready marks.result.mines marks.result.safe marks.ensures.mines marks.ensures.safe
    _ c.marked_in_one.ensures _ c.list_blocks-2.ensures _ c.list_blocks.ensures
