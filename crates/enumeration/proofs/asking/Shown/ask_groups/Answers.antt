-- `enumeration::asking::Shown::ask_groups` meets its contract. The loop's invariant: of a block whose groups these are, only what some solution shows is marked, and the
-- groups before g are told. Rests on the laws of `Telling`. Assumes nothing.
use Prim.Native.Nat.{◌<◌}
use mathlib.Core.Path.{refl, sym, ◌∙◌}
use native.Mathlib.Omega.{arith}
use Rattle.orders.specs.WholeOrders.{in_order}
use Rattle.enumeration.specs.Asking.{OverGroups}
use Rattle.enumeration.proofs.ShownGroups.{over_few, over_some, over_ordered, telling_start, telling_settled, telling_known, telling_asked}
use Rattle.enumeration.proofs.asking.Shown.ask_groups.Goals as goal
use Rattle.enumeration.proofs.asking.Shown.ask_groups.Goals.{In-loop-g, Start, else-not-contains, then-not-contains+else-self-g-lt2, then-not-contains+then-self-g-lt2}

-- a block whose groups these are
over : (s : Start) → OverGroups s.requires.over_groups.0 s.args.grouped.now (in_order s.args.settled.now.begun) s.args.settled.now.values s.args.unmet.now
over s = s.requires.over_groups.1

-- the group is a place of the arrays
below : (c : In-loop-g) → c.loop-g.g < 1024
below c = omega (arith, c.loop-g-test.true, over_few (over (goal.at.In-loop-g c).Start))

pub loop-g-init : goal.loop-g-init
loop-g-init c = (refl, telling_start c.args.grouped.now (in_order c.args.settled.now.begun) c.args.settled.now.values c.args.unmet.now c.args.self.now)

pub contains-requires : goal.contains-requires
contains-requires c = below (goal.at.contains-requires c).In-loop-g

pub bounds-self-g : goal.bounds-self-g
bounds-self-g c = below (goal.at.bounds-self-g c).In-loop-g

pub bounds-self-g-then-not-contains : goal.bounds-self-g-then-not-contains
bounds-self-g-then-not-contains c = below (goal.at.bounds-self-g-then-not-contains c).In-loop-g

pub overflow_add-self : goal.overflow_add-self
overflow_add-self c =
    let only = c.loop-g.invariant.1.only c.requires.over_groups.0 (over (goal.at.overflow_add-self c).Start) c.requires.over_groups.2 in
    omega (arith, only.mines.bits c.loop-g.g, only.frees.bits c.loop-g.g)

pub outward-order-requires-clause-groups_bound : goal.outward-order-requires-clause-groups_bound
outward-order-requires-clause-groups_bound c = (over_few (over (goal.at.outward-order-requires-clause-groups_bound c).Start), c.loop-g-test.true)

pub ask_group-requires : goal.ask_group-requires
ask_group-requires c =
    let loop = c.loop-g in
    let o = over (goal.at.ask_group-requires c).Start in
    let order = c.outward-order in record {
      ordered = over_ordered o order.result order.ensures.completes.whole order.ensures.completes.below order.ensures.completes.once;
      state = rw loop.invariant.0 o.state;
      at_lt_groups = (order.ensures.count_lt_groups.0, rw order.ensures.count_lt_groups.1 (over_some o loop.g c.loop-g-test.true));
    }

pub loop-g-preserved : goal.loop-g-preserved
loop-g-preserved c =
    let loop = c.loop-g in
    elim c.if-not-contains.branch [
      | then-not-contains+then-self-g-lt2 w ↦ (
        w.unmet-is ∙ w.ask_group.ensures.unmet_unchanged ∙ loop.invariant.0,
        rw w.self-is
            (telling_asked loop.invariant.1 w.ask_group.new.self w.ask_group.ensures.stays
            (rw (loop.invariant.0, w.outward-order.ensures.completes.front, w.outward-order.ensures.count_lt_groups.1) at w.ask_group.ensures.shown_only)),
      )
      | then-not-contains+else-self-g-lt2 w ↦ (w.unmet-is ∙ loop.invariant.0, rw w.self-is (telling_known loop.invariant.1 (omega (arith, w.if-self-g-lt2.false))))
      | else-not-contains w ↦ (w.unmet-is ∙ loop.invariant.0, rw w.self-is (telling_settled loop.invariant.1 (sym c.contains.ensures ∙ w.if-not-contains.false)))
    ]

pub returns : goal.returns
returns c =
    let telling = c.loop-g.invariant.1 in
    λ b o shown told. (telling.only b o shown, λ j h. telling.told b o shown told j (omega (arith, h, c.loop-g-test.false)))
