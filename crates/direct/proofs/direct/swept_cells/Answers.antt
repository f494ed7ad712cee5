-- `direct::direct::swept_cells` meets its contract: it hands on the lists of the sweeps. Rests on `lists_swept`. Assumes nothing.
use Rattle.direct.proofs.DirectAnswer.{lists_swept}
use Rattle.direct.proofs.direct.swept_cells.Goals as goal

pub returns : goal.returns
returns c = lists_swept _ c.sweep-found.result c.sweep-found.ensures
