-- `growth::drop_first` meets its contract: the first source gives its place to the last, so the others are rotated. Rests on `swap_remove`.
-- Assumes nothing.
use Rattle.growth.proofs.Removals.{first_dropped}
use Rattle.growth.proofs.drop_first.Goals as goal

pub returns-clause-left_after : goal.returns-clause-left_after
returns-clause-left_after c = first_dropped c.requires.0 c.requires.1
