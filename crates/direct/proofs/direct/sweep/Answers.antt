-- `direct::direct::sweep` meets its contract: the two sweeps list the mines and the safe cells of the equations. Rests on the laws of listed cells. Assumes
-- nothing.
use Rattle.blocks.proofs.MarkLaws.{marks_none}
use Rattle.direct.proofs.ListedCells.{listed_none, listed_is}
use Rattle.direct.proofs.direct.sweep.Goals as goal

pub sweep_mines-mine_count-requires : goal.sweep_mines-mine_count-requires
sweep_mines-mine_count-requires c = record { slots = c.requires; marks = marks_none 1024; listed = listed_none }

pub sweep_safe-safe_count-requires : goal.sweep_safe-safe_count-requires
sweep_safe-safe_count-requires c = record { slots = c.requires; marks = rw c.sweep_mines-mine_count.ensures.out_after at c.sweep_mines-mine_count.ensures.still_listed.shown; listed = listed_none }

pub returns : goal.returns
returns c =
    let record { still_listed = safe; out_after = safe_are } = c.sweep_safe-safe_count.ensures in
    let record { still_listed = mines; out_after = mines_are } = c.sweep_mines-mine_count.ensures in
    record {
      safe_marked = rw safe_are at safe.shown;
      safe_are = listed_is _ _ _ safe _ safe_are;
      mines_marked = rw mines_are at mines.shown;
      mines_are = listed_is _ _ _ mines _ mines_are;
    }
