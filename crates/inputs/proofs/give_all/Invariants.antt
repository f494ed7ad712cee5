-- `give_all` gives a step each byte, and leaves it such that it may be called again. The loop's invariant: it may be called, and calls at the bytes that are left go on from
-- those before. Assumes nothing.
use Rattle.std.proofs.Common.{length}
use Rattle.std.specs.List.{FoldsTo}
use Rattle.inputs.proofs.give_all.Given as goal

abbrev pub invariant-loop-byte : goal.invariant-loop-byte
invariant-loop-byte g l =
    goal.F-IsAlwaysCallable g l.step
    × ((last : _) → FoldsTo (λ p x q. goal.F-step g p x tt q) l.step l.rest last → FoldsTo (λ p x q. goal.F-step g p x tt q) l.fn.step l.fn.part last)

abbrev pub decreases-loop-byte : goal.decreases-loop-byte
decreases-loop-byte g l = length l.rest
