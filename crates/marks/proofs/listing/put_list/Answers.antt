-- `marks::listing::put_list` meets its contract: the copy into a part of `out` stores the numbers one after another. Assumes nothing.
use native.Mathlib.Omega.{arith}
use Rattle.lists.proofs.Stores.{copied_stored}
use Rattle.marks.proofs.listing.put_list.Goals as goal

pub returns : goal.returns
returns c = rw c.copy_from_slice.ensures.after (copied_stored c.args.out.now c.args.list.now c.args.at c.requires _ (omega arith))
