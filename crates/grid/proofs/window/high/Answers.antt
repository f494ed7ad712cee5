-- `grid::window::high` meets its contract. Assumes nothing.
use borrow.Author.Rules.{rules}
use Prim.Native.Nat.{◌+◌}
use mathlib.Core.Path.{ap, ◌∙◌}
use native.Mathlib.Omega.{arith}
use Rattle.grid.proofs.Lines.{high_short, high_three, high_inside, high_last, low_below}
use Rattle.grid.proofs.window.high.Goals as goal

pub returns-then-size-lt3 : goal.returns-then-size-lt3
returns-then-size-lt3 c =
    let a = c.args in
    c.low-first.ensures ∙ high_short a.edgeless a.size a.i c.if-edgeless.true c.if-size-lt3.true

pub overflow_add-result : goal.overflow_add-result
overflow_add-result c =
    let below = low_below c.args.edgeless c.args.size c.args.i c.requires.i_lt_size in
    let is = c.low-first.ensures in
    search (rules, below, is)

pub returns-then-edgeless : goal.returns-then-edgeless
returns-then-edgeless c =
    let a = c.args in
    let h = c.if-size-lt3.false in
    ap (λ n. n + 3) c.low-first.ensures ∙ high_three a.edgeless a.size a.i c.if-edgeless.true (omega arith)

pub returns-then-i-size : goal.returns-then-i-size
returns-then-i-size c = high_inside _ _ _ c.if-edgeless.false c.if-i-size.true

pub returns-else-i-size : goal.returns-else-i-size
returns-else-i-size c =
    let a = c.args in
    let h = c.if-i-size.false in
    high_last a.edgeless a.size a.i c.if-edgeless.false (omega arith)
