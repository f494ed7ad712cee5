-- `export::put_verdict` meets its contract: a refusal is its number and stores nothing; else the four counts are stored one after another. Assumes nothing.
use mathlib.Core.Path.{refl}
use Rattle.export.specs.Returned.{laid}
use Rattle.export.proofs.put_verdict.Goals as goal

pub returns-in-Err : goal.returns-in-Err
unfolding laid
returns-in-Err c = rw c.in-Err.is (c.from.ensures, refl)

pub returns-in-Ok : goal.returns-in-Ok
returns-in-Ok c = rw c.in-Ok.is (c.put_counts.ensures.0, rw c.from-yes.ensures at c.put_counts.ensures.1)
