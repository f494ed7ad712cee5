-- `chunks::put_cells` meets its contract. The loop's invariant is told beside it. Rests on the laws of `Storing`. Assumes nothing.
use Prim.Native.Nat.{◌+◌}
use mathlib.Core.Path.{◌≡◌, refl, sym, ap, ◌∙◌}
use mathlib.Core.List.{map-id, ◌∷◌, reverse}
use native.Mathlib.Omega.{arith}
use borrow.Author.Rules.{rules}
use lib.ListN.{length, drop}
use lib.Seq.{sets}
use borrow.Author.Tests.{eq-eqb, ne_eqb}
use Rattle.std.proofs.lemmas.List.{length_push}
use Rattle.std.proofs.lemmas.Iterator.Adapters.{YieldsList-from_rev_slice}
use Rattle.std.proofs.lemmas.Iterator.Consumers.{YieldsList-turn, YieldsList-end}
use Rattle.lists.specs.Lists.{keep}
use Rattle.lists.proofs.Arrays.{drop_next, drop_none}
use Rattle.lists.proofs.Storing.{storing_start, storing_room, storing_next, storing_pass, storing_end, single_store, single_stored}
use Rattle.lists.proofs.StoredAndKept.{keep_next, keep_pass}
use Rattle.lists.proofs.TurnedRound.{keep_reverse}
use Rattle.blocks.specs.Places.{marked}
use Rattle.chunks.proofs.put_cells.Goals as goal
use Rattle.chunks.proofs.put_cells.Goals.{After-wide, Then-marks-wide-eq1}

pub loop-cell-init : goal.loop-cell-init
loop-cell-init c = (tt, tt, storing_pass (storing_start (search rules)) (sym (keep_reverse (marked c.args.marks.now) c.args.cells.now)))

-- the next cell is the first of those still to come
more : (c : After-wide)
    → drop (length c.loop-cell.yielded) (reverse c.args.cells.now) ≡ c.in-Some.field-0.now ∷ drop (length c.loop-cell.yielded + 1) (reverse c.args.cells.now)
more c =
    let turn = YieldsList-turn (YieldsList-from_rev_slice c.args.cells.now cc) c.loop-cell.yielded _ c.loop-cell.yielded_by _ _ _ c.in-Some.is c.next.ensures.steps in
    drop_next (reverse c.args.cells.now) (length c.loop-cell.yielded) _ _ turn.0 turn.1

-- and where it is marked, of the marked ones
kept : (c : Then-marks-wide-eq1)
    → keep (marked c.args.marks.now) (drop (length c.loop-cell.yielded) (reverse c.args.cells.now))
    ≡ c.in-Some.field-0.now ∷ keep (marked c.args.marks.now) (drop (length c.loop-cell.yielded + 1) (reverse c.args.cells.now))
kept c = keep_next (marked c.args.marks.now) _ (more (goal.at.Then-marks-wide-eq1 c).After-wide) (eq-eqb _ _ (rw c.wide.ensures at c.if-marks-wide-eq1.true))

pub bounds-out-k : goal.bounds-out-k
bounds-out-k c = storing_room c.loop-cell.invariant.2 (kept (goal.at.bounds-out-k c).Then-marks-wide-eq1) 1024 c.requires.end_bound

pub loop-cell-preserved-then-marks-wide-eq1 : goal.loop-cell-preserved-then-marks-wide-eq1
loop-cell-preserved-then-marks-wide-eq1 c =
    let loop = c.loop-cell in
    let next = kept (goal.at.loop-cell-preserved-then-marks-wide-eq1 c).Then-marks-wide-eq1 in
    (tt, tt, rw length_push (storing_next loop.invariant.2 next refl _ (single_store loop.out loop.k _)))

pub loop-cell-preserved : goal.loop-cell-preserved
loop-cell-preserved c =
    let next = more (goal.at.loop-cell-preserved c).After-wide in
    (tt, tt, rw length_push (storing_pass c.loop-cell.invariant.2 (keep_pass (marked c.args.marks.now) _ next (ne_eqb _ _ (rw c.wide.ensures at c.if-marks-wide-eq1.false)))))

pub returns : goal.returns
returns c =
    let loop = c.loop-cell in
    let all = reverse (keep (marked c.args.marks.now) c.args.cells.now) in
    let seen = YieldsList-end (YieldsList-from_rev_slice c.args.cells.now cc) loop.yielded _ loop.yielded_by _ _ c.in-None.is c.next.ensures.steps in
    let none = drop_none (reverse c.args.cells.now) (length loop.yielded) (omega (arith, seen.1)) in
    let end = storing_end loop.invariant.2 (ap (keep (marked c.args.marks.now)) none) in
    record { value = end.0; out_after = single_stored (λ x. x) c.args.out.now c.args.at all loop.out end.1 ∙ ap (sets c.args.out.now c.args.at) (map-id all) }
