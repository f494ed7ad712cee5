-- `total_rule::cells::list_never` meets its contract. The loop's invariant: the cells before c that pass are listed. Assumes nothing.
use native.Mathlib.Omega.{arith}
use borrow.Author.Tests.{ne_eqb}
use Rattle.total_rule.proofs.ToldCells.{listed_none, listed_room, listed_next, listed_pass, never_yes, never_told, never_shut}
use Rattle.total_rule.proofs.cells.list_never.Goals as goal
use Rattle.total_rule.proofs.cells.list_never.Goals.{then-shown-eq10+then-told-c-eq0, else-shown-eq10, else-shown-eq10-via-then-shown-eq10+else-told-c-eq0, else-shown-eq10-via-else-shown-eq10}
use Rattle.total_rule.proofs.cells.list_never.Invariants.{never}

pub loop-c-init : goal.loop-c-init
loop-c-init c = listed_none (never c.args.position.now c.args.told.now)

pub bounds-cells-count : goal.bounds-cells-count
bounds-cells-count c = omega (arith, listed_room c.loop-c.invariant, c.loop-c-test.true, c.requires)

pub offset_bounds-cells-count : goal.offset_bounds-cells-count
offset_bounds-cells-count c = omega (arith, listed_room c.loop-c.invariant, c.loop-c-test.true, c.requires)

pub overflow_add-count : goal.overflow_add-count
overflow_add-count c = omega (arith, listed_room c.loop-c.invariant, c.loop-c-test.true, c.requires)

pub loop-c-preserved : goal.loop-c-preserved
loop-c-preserved c =
    let loop = c.loop-c in
    let test = c.loop-c-test.true in
    let p = c.args.position.now in
    let told = c.args.told.now in
    elim c.if-shown-eq10.branch [
      | then-shown-eq10+then-told-c-eq0 w ↦ rw (w.cells-is, w.count-is) (listed_next loop.invariant (omega (arith, test, c.requires)) (never_yes p told loop.c test w.if-shown-eq10.true w.if-told-c-eq0.true))
      | else-shown-eq10 w ↦ rw (w.cells-is, w.count-is) (elim w.else-shown-eq10.branch [
        | else-shown-eq10-via-then-shown-eq10+else-told-c-eq0 v ↦ listed_pass loop.invariant (never_told p told loop.c test v.if-shown-eq10.true (ne_eqb _ _ v.if-told-c-eq0.false))
        | else-shown-eq10-via-else-shown-eq10 v ↦ listed_pass loop.invariant (never_shut p told loop.c test (ne_eqb _ _ v.if-shown-eq10.false))
      ])
    ]
