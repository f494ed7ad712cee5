-- `enumeration::asking::Shown::note` meets its contract. The loop's invariant: of the groups before g those that the solution shows mined, and those that it shows
-- unfilled, are marked. Rests on the laws of `Noted`. Assumes nothing.
use mathlib.Core.Path.{◌≡◌, ap}
use Prim.Native.Nat.{◌<◌}
use native.Mathlib.Omega.{arith}
use borrow.Author.Rules.{rules}
use borrow.Author.Tests.{lt-ltb, le-ltb}
use Rattle.enumeration.specs.Asking.{mine_in, free_in}
use Rattle.enumeration.specs.declared.asking.Shown.{Shown}
use Rattle.enumeration.proofs.NotedMarks.{noted_none, noted_passed, noted_marked}
use Rattle.enumeration.proofs.asking.Shown.note.Goals as goal
use Rattle.enumeration.proofs.asking.Shown.note.Goals.{else-values-g, else-values-g-gt0, then-values-g, then-values-g-gt0}

pub loop-g-init : goal.loop-g-init
loop-g-init c = (
  noted_none (mine_in c.args.values.now) c.args.self.now.mined (search rules),
  noted_none (free_in c.args.grouped.now.sizes c.args.values.now) c.args.self.now.unfilled (search rules),
)

pub loop-g-preserved : goal.loop-g-preserved
loop-g-preserved c =
    let loop = c.loop-g in
    let mine = mine_in c.args.values.now in
    let free = free_in c.args.grouped.now.sizes c.args.values.now in
    let below : loop.g < 1024 = omega (arith, c.loop-g-test.true, c.requires) in
    let mined_is : c.if-values-g.self.mined ≡ c.if-values-g-gt0.self.mined =
    elim c.if-values-g.branch [
      | then-values-g w ↦ ap (λ (s : Shown). s.mined) w.self-is
      | else-values-g w ↦ ap (λ (s : Shown). s.mined) w.self-is
    ] in
    let unfilled_is : c.if-values-g-gt0.self.unfilled ≡ loop.self.unfilled =
    elim c.if-values-g-gt0.branch [
      | then-values-g-gt0 w ↦ ap (λ (s : Shown). s.unfilled) w.self-is
      | else-values-g-gt0 w ↦ ap (λ (s : Shown). s.unfilled) w.self-is
    ] in (
      rw mined_is (elim c.if-values-g-gt0.branch [
        | then-values-g-gt0 w ↦ rw w.self-is (noted_marked mine c.args.self.now.mined loop.g loop.self.mined loop.invariant.0 below (lt-ltb _ _ w.if-values-g-gt0.true))
        | else-values-g-gt0 w ↦ rw w.self-is (noted_passed mine c.args.self.now.mined loop.g loop.self.mined loop.invariant.0 (le-ltb _ _ w.if-values-g-gt0.false))
      ]),
      elim c.if-values-g.branch [
        | then-values-g w ↦ rw (w.self-is, unfilled_is) (noted_marked free c.args.self.now.unfilled loop.g loop.self.unfilled loop.invariant.1 below (lt-ltb _ _ w.if-values-g.true))
        | else-values-g w ↦ rw (w.self-is, unfilled_is) (noted_passed free c.args.self.now.unfilled loop.g loop.self.unfilled loop.invariant.1 (le-ltb _ _ w.if-values-g.false))
      ],
    )
