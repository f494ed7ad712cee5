use Prim.Native.Nat.{ℕ, ◌-◌}
use mathlib.Core.List.{map}
use Rattle.lists.specs.Lists.{range, joined}
use Rattle.blocks.specs.BlockSets.{equation_at}
use Rattle.text.specs.Text.{Wrote}
use Rattle.show.specs.Blocks.{equation_text}
use Rattle.show.proofs.put_equations.Given as goal

abbrev pub invariant-loop-e : goal.invariant-loop-e
invariant-loop-e l = Wrote l.initial.out l.out (joined (map (λ (e : ℕ). equation_text (equation_at l.set e)) (range l.from (l.e - l.from))))
