use Prim.Native.Nat.{ℕ, ◌-◌}
use mathlib.Core.List.{map}
use Rattle.lists.specs.Lists.{range, joined}
use Rattle.blocks.specs.BlockSets.{block_at}
use Rattle.text.specs.Text.{Wrote}
use Rattle.show.specs.Blocks.{block_text}
use Rattle.show.proofs.put_blocks.Given as goal

abbrev pub invariant-loop-k : goal.invariant-loop-k
invariant-loop-k l = Wrote l.initial.out l.out (joined (map (λ (k : ℕ). block_text (block_at l.set k)) (range 0 (l.k - 0))))
