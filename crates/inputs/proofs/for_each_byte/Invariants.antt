-- `for_each_byte` gives a step the bytes that it reads. The loop's invariant: the step may be called, and was called at the bytes that were read. Assumes nothing.
use Rattle.std.proofs.Common.{List, ℕ}
use Rattle.std.specs.List.{FoldsTo}
use Rattle.std.specs.Io.KnownBytes.{Consumes}
use Rattle.inputs.proofs.for_each_byte.Given as goal

abbrev pub invariant-loop : goal.invariant-loop
invariant-loop g l =
    goal.F-IsAlwaysCallable g l.step
    × ((bytes : List ℕ) × Consumes (g.R.Read.remaining l.initial.reader) (g.R.Read.remaining l.reader) bytes × FoldsTo (λ p x q. goal.F-step g p x tt q) l.initial.step bytes l.step)
