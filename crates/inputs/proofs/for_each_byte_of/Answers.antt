-- `for_each_byte_of` meets its contract: what a part brings follows what was read before, and the step's calls at it follow those before. Assumes nothing.
use Rattle.std.proofs.Common.{◌++◌, take}
use Rattle.std.proofs.KnownBytes.{Consumes-trans}
use Rattle.inputs.proofs.Folded.{folds_append}
use Rattle.inputs.proofs.for_each_byte_of.Goals as goal

pub returns-then-came-lt65536 : goal.returns-then-came-lt65536
returns-then-came-lt65536 g c =
    let before = c.loop.invariant.1 in
    let came = take c.read_full-came.result c.read_full-came.new.part in (
      before.0 ++ came,
      c.give_all.new.step,
      Consumes-trans _ _ _ before.0 came before.1 c.read_full-came.ensures.read,
      folds_append _ _ before.0 came _ _ before.2 c.give_all.ensures.gave,
    )

pub loop-preserved : goal.loop-preserved
loop-preserved g c =
    let before = c.loop.invariant.1 in
    let came = take c.read_full-came.result c.read_full-came.new.part in (
      c.give_all.ensures.callable,
      (
        before.0 ++ came,
        Consumes-trans _ _ _ before.0 came before.1 c.read_full-came.ensures.read,
        folds_append _ _ before.0 came _ _ before.2 c.give_all.ensures.gave,
      ),
    )
