-- `marks::listing::CellList::followed_by` meets its contract: the second list is stored behind the first. Rests on `list_appended`. Assumes nothing.
use Rattle.marks.proofs.HeldLists.{list_appended}
use Rattle.marks.proofs.listing.CellList.followed_by.Goals as goal

pub returns : goal.returns
returns c = list_appended c.args.self c.args.more c.requires _ (rw c.as_slice.ensures at c.put_list.ensures)
