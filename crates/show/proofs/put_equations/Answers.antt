-- `show::put_equations` meets its contract. The loop's invariant: the equations up to place e are written. It rests on the laws of a loop that writes, of the crate text.
-- Assumes nothing.
use Prim.Native.Nat.{ℕ, ◌-◌}
use mathlib.Core.Path.{◌≡◌}
use native.Mathlib.Omega.{arith}
use Rattle.lists.specs.Lists.{range}
use Rattle.lists.proofs.Joined.{joined_map_map}
use Rattle.blocks.specs.BlockSets.{equation_at}
use Rattle.text.proofs.Writing.{wrote_place}
use Rattle.show.specs.Blocks.{equation_text}
use Rattle.show.proofs.put_equations.Goals as goal

pub loop-e-preserved : goal.loop-e-preserved
loop-e-preserved c = wrote_place (λ (e : ℕ). equation_text (equation_at c.args.set.now e)) c.args.from c.loop-e.e c.loop-e.auto.e c.loop-e.invariant c.put_equation.ensures

pub returns : goal.returns
returns c =
    let a = c.args in
    let e : c.loop-e.e ≡ a.to = omega arith in
    rw (← joined_map_map equation_text (equation_at a.set.now) (range a.from (a.to - a.from))) (rw e at c.loop-e.invariant)
