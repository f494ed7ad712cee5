-- `for_each_part_with_room` is safe and ends. The loop's invariant: the buffer keeps its length, what is held stands inside it, with room for a byte more where the buffer has
-- the bytes of which the step takes some, and the step may be called. Assumes nothing.
use Rattle.std.proofs.Common.{◌≡◌, ◌≤◌, ◌<◌, length}
use Rattle.inputs.proofs.for_each_part_with_room.Given as goal

abbrev pub invariant-loop : goal.invariant-loop
invariant-loop g l =
    (length l.input ≡ length l.initial.input) × (l.held ≤ length l.input) × (0 < g.row.LEAST → g.row.LEAST ≤ length l.input → l.held < length l.input) × goal.F-IsAlwaysCallable g l.step
