-- `blocks::put_slots` meets its contract: the list and the fillers behind it are written over all eight slots. Assumes nothing.
use mathlib.Core.Path.{◌≡◌, ◌∙◌}
use native.Mathlib.Omega.{arith}
use lib.ListN.{length}
use lib.Seq.{length-take-le}
use borrow.Author.Rules.{rules}
use Rattle.blocks.proofs.Turns.{put_both}
use Rattle.blocks.proofs.put_slots.Goals as goal

pub returns : goal.returns
returns c =
    let list = c.args.list in
    let eight : length list.cells ≡ 8 = search rules in
    let long = length-take-le list.len list.cells (omega arith) in
    let copied = c.copy_from_slice.ensures.after ∙ c.as_slice.ensures in
    rw copied (put_both c.args.slots.now c.args.e c.requires.0 c.requires.1 _ _ list.len long c.requires.2 (rw copied at (c.fill.ensures.after (λ y h. h))))
