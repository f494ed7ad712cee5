-- `chunks::reversed` meets its contract: behind the cells stand fillers, which stay. Rests on `turned_listed`. Assumes nothing.
use Rattle.chunks.proofs.Gathered.{turned_listed}
use Rattle.chunks.proofs.reversed.Goals as goal

pub returns : goal.returns
returns c = turned_listed _ _ _ c.requires.1 c.reverse.ensures.after
