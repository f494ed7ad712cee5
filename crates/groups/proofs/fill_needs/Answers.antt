-- `groups::fill_needs` meets its contract. Rests on `passed_next`. Assumes nothing.
use mathlib.Core.Path.{ap}
use native.Mathlib.Omega.{arith}
use Rattle.grid.specs.declared.window.UpToEight.{UpToEight}
use Rattle.groups.proofs.PassedEquations.{need_of, room_of, passed_none, passed_next}
use Rattle.groups.proofs.fill_needs.Goals as goal

pub loop-e-init : goal.loop-e-init
loop-e-init c =
    let set = c.args.set.now in
    let first = c.args.bounds.first_equation in
    (passed_none need_of set.slots set.rests _ first c.requires.needs_value.0, passed_none room_of set.slots set.rests _ first c.requires.needs_value.1)

pub loop-e-preserved : goal.loop-e-preserved
loop-e-preserved c =
    let l = c.loop-e in
    let set = c.args.set.now in
    let first = c.args.bounds.first_equation in
    let few = c.requires.slots.0.few in (
      passed_next need_of set.slots set.rests _ first l.e _ (omega arith) (omega arith) l.invariant.0 c.saturating_sub.ensures,
      passed_next room_of set.slots set.rests _ first l.e _ (omega arith) (omega arith) l.invariant.1 (ap (λ (n : UpToEight). n.len) c.slots_at.ensures),
    )
