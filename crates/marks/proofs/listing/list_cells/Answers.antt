-- `marks::listing::list_cells` meets its contract. The loop's invariant: the cells from place i on that have the mark, stored from place k on, give what all of
-- them give from `at` on. The measure is what is left. Rests on the laws of `Storing`. Assumes nothing.
use Prim.Native.Nat.{ℕ, ◌<◌}
use mathlib.Core.Path.{refl, sym, ap, ◌∙◌}
use native.Mathlib.Omega.{arith}
use lib.ListN.{set}
use borrow.Author.Tests.{eq-eqb, ne_eqb}
use Rattle.lists.proofs.Storing.{storing_start, storing_room, storing_next, storing_pass, single_store}
use Rattle.marks.proofs.ByMarks.{listed_kept, listed_passed, listed_none}
use Rattle.lists.proofs.StoredAndKept.{run_end}
use Rattle.marks.proofs.listing.list_cells.Goals as goal
use Rattle.marks.proofs.listing.list_cells.Goals.{Then-marks-wide, else-marks-wide, then-marks-wide}

pub loop-i-init : goal.loop-i-init
loop-i-init c = storing_start c.requires.out_len

pub bounds-marks-wide : goal.bounds-marks-wide
bounds-marks-wide c = rw c.wide.ensures (c.requires.cells.below c.loop-i.i c.loop-i-test.true)

-- there is room for a cell that has the mark
room : (c : Then-marks-wide) → c.loop-i.k < 1024
room c =
    let loop = c.loop-i in
    let wide = c.wide in
    storing_room loop.invariant (listed_kept c.args.marks.now c.args.mark c.args.cells.now loop.i c.args.end wide.result wide.ensures c.loop-i-test.true (eq-eqb _ _ c.if-marks-wide.true)) 1024 c.requires.room

pub offset_bounds-out-k : goal.offset_bounds-out-k
offset_bounds-out-k c = omega (arith, room c)

pub bounds-out-k : goal.bounds-out-k
bounds-out-k c = room (goal.at.bounds-out-k c).Then-marks-wide

pub overflow_add-k : goal.overflow_add-k
overflow_add-k c = omega (arith, room (goal.at.overflow_add-k c).Then-marks-wide)

pub loop-i-preserved : goal.loop-i-preserved
loop-i-preserved c =
    let loop = c.loop-i in
    let test = c.loop-i-test.true in
    let wide = c.wide in
    elim c.if-marks-wide.branch [
      | then-marks-wide w ↦ rw (w.out-is, w.k-is)
          (storing_next loop.invariant (listed_kept c.args.marks.now c.args.mark c.args.cells.now loop.i c.args.end wide.result wide.ensures test (eq-eqb _ _ w.if-marks-wide.true)) refl _
          (ap (λ (y : ℕ). set loop.out loop.k y) (sym wide.ensures) ∙ single_store loop.out loop.k wide.result))
      | else-marks-wide w ↦ rw (w.out-is, w.k-is) (storing_pass loop.invariant (listed_passed c.args.marks.now c.args.mark c.args.cells.now loop.i c.args.end wide.result wide.ensures test (ne_eqb _ _ w.if-marks-wide.false)))
    ]

pub returns : goal.returns
returns c =
    let loop = c.loop-i in
    let both = run_end loop.invariant (listed_none c.args.marks.now c.args.mark c.args.cells.now loop.i c.args.end c.loop-i-test.false) in
    record { value = both.0; out_after = both.1 }
