-- `show::put_marked` meets its contract: the byte and the number are one text. Assumes nothing.
use Rattle.text.proofs.Writing.{wrote_both}
use Rattle.show.proofs.put_marked.Goals as goal

pub returns : goal.returns
returns c = wrote_both c.byte.ensures c.number.ensures
