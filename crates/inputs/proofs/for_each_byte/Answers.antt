-- `for_each_byte` meets its contract: what a read brings follows what was read before, and the step's calls at it follow those before. Assumes nothing.
use Rattle.std.proofs.Common.{◌++◌, take}
use Rattle.std.proofs.KnownBytes.{Consumes-trans}
use Rattle.inputs.proofs.Folded.{folds_append}
use Rattle.inputs.proofs.for_each_byte.Goals as goal

pub loop-preserved : goal.loop-preserved
loop-preserved g c =
    let before = c.loop.invariant.1 in
    let came = take c.in-Ok.came c.read.new.buf in (
      c.give_all.ensures.callable,
      (
        before.0 ++ came,
        Consumes-trans _ _ _ before.0 came before.1 c.in-Ok.ensures.bytes.0,
        folds_append _ _ before.0 came _ _ before.2 c.give_all.ensures.gave,
      ),
    )
