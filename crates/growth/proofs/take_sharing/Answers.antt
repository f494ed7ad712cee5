-- `growth::take_sharing` meets its contract. The loop's invariant: the scan has come down to place t, so the sources left are the first t as they
-- were and then what `removed` leaves of the others, and those of the others that share a closed cell with c are found, from the last to the first; none is
-- lost. The measure is t. Rests on the laws of `Removals` and of `Marks`. Assumes nothing.
use Prim.Native.Nat.{◌<◌}
use mathlib.Core.Path.{◌≡◌, refl, sym, ◌∙◌}
use native.Mathlib.Omega.{arith}
use Rattle.growth.proofs.Marks.{marks_tell, far_apart}
use Rattle.growth.proofs.Removals.{scan_cells, scan_on, scan_pass, scan_take, scan_ends}
use Rattle.growth.proofs.take_sharing.Goals as goal
use Rattle.growth.proofs.take_sharing.Goals.{After-wide-d, else-near_enough-via-then-near_enough+else-meets_marks, else-near_enough-via-else-near_enough}

-- the next source is on the board
below : (c : After-wide-d) → c.wide-d.result < 1024
below c =
    let l = c.loop-t in
    scan_on l.invariant.3 (omega arith) l.invariant.1 c.wide-d.ensures c.requires.cells.on_board

pub near_enough-requires : goal.near_enough-requires
near_enough-requires c = let pre = c.requires in (pre.slots.few_columns, pre.c_bound, below c)

pub slots_at-requires-then-near_enough : goal.slots_at-requires-then-near_enough
slots_at-requires-then-near_enough c = (c.requires.slots.held.wide, below (goal.at.slots_at-requires-then-near_enough c).After-wide-d)

pub loop-t-preserved-then-meets_marks : goal.loop-t-preserved-then-meets_marks
loop-t-preserved-then-meets_marks c =
    let l = c.loop-t in
    let m = c.marks_of-marks in
    let at = c.wide-d.ensures in
    let shares = sym (marks_tell c.args.beside.now _ _ m.result c.slots_at.ensures c.slots_at-then-near_enough.ensures m.ensures c.meets_marks.ensures) ∙ c.if-meets_marks.true in
    rw c.push.ensures (omega arith, omega arith, omega arith, scan_take l.invariant.3 (omega arith) l.invariant.1 refl (rw at at shares) (omega arith))

pub loop-t-preserved : goal.loop-t-preserved
loop-t-preserved c =
    let l = c.loop-t in
    let m = c.marks_of-marks in
    let at = c.wide-d.ensures in
    elim c.else-near_enough.branch [
      | else-near_enough-via-then-near_enough+else-meets_marks w ↦
          let apart = sym (marks_tell c.args.beside.now _ _ m.result c.slots_at.ensures w.slots_at-then-near_enough.ensures m.ensures w.meets_marks.ensures) ∙ w.if-meets_marks.false in
          (omega arith, omega arith, omega arith, scan_pass l.invariant.3 (omega arith) l.invariant.1 at apart)
      | else-near_enough-via-else-near_enough w ↦
          let apart = far_apart c.requires.slots _ _ c.near_enough.ensures w.if-near_enough.false in
          (omega arith, omega arith, omega arith, scan_pass l.invariant.3 (omega arith) l.invariant.1 at apart)
    ]

pub returns : goal.returns
returns c =
    let l = c.loop-t in
    let pre = c.requires in
    let e : l.t ≡ 1 = omega arith in
    let s = rw e at l.invariant.3 in
    let cells = scan_cells s pre.cells.on_board pre.cells_2.on_board in
    record { left_after = scan_ends _ _ pre.le_left.0 s; found_after = s.found_list; cells_3 = cells; le_left_2 = (omega arith, omega arith) }
