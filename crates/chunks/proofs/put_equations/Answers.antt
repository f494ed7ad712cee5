-- `chunks::put_equations` meets its contract. The loop's invariant is told beside it. Rests on the laws of `Storing`. Assumes nothing.
use Prim.Native.Nat.{ℕ, ◌-◌, ◌*◌, ◌<◌}
use mathlib.Core.Path.{◌≡◌, refl, sym, ap, ◌∙◌}
use mathlib.Core.List.{List, ◌∷◌}
use lib.ListN.{get_or}
use lib.Seq.{sets}
use Rattle.lists.specs.Lists.{pad}
use Rattle.lists.proofs.Storing.{storing_room, storing_next, storing_pass, storing_end, single_store, single_stored}
use Rattle.blocks.proofs.Between.{listed_marked}
use Rattle.chunks.specs.Splitting.{marked_places, places_shown}
use Rattle.chunks.proofs.Looked.{slots_turned, back_few, back_cells}
use Rattle.chunks.proofs.Gathered.{place_kept, place_passed, place_none}
use Rattle.chunks.proofs.put_equations.Goals as goal
use Rattle.chunks.proofs.put_equations.Goals.{Then-meets_marks}

-- the equation before place e is kept
kept : (c : Then-meets_marks)
    → marked_places c.args.marks.now c.args.set.now.slots c.args.bounds.first_equation c.loop-e.e
    ≡ (c.loop-e.e - 1) ∷ marked_places c.args.marks.now c.args.set.now.slots c.args.bounds.first_equation (c.loop-e.e - 1)
kept c =
    place_kept c.args.marks.now c.args.set.now.slots c.args.bounds.first_equation c.loop-e.e c.loop-e-test.true
    (listed_marked _ c.args.set.now.slots _ c.slots_at-list.ensures c.args.marks.now _ (sym c.meets_marks.ensures ∙ c.if-meets_marks.true))

-- and there is room for it
room : (c : Then-meets_marks) → c.loop-e.k < 1024
room c = storing_room c.loop-e.invariant.0 (kept c) 1024 c.requires.end_bound

pub put_slots-requires : goal.put_slots-requires
put_slots-requires c = (c.loop-e.invariant.0.long, room (goal.at.put_slots-requires c).Then-meets_marks, back_few _ c.args.set.now.slots _ c.slots_at-list.ensures _ c.reversed.ensures)

pub bounds-rests-k : goal.bounds-rests-k
bounds-rests-k c = room (goal.at.bounds-rests-k c).Then-meets_marks

pub loop-e-preserved-then-meets_marks : goal.loop-e-preserved-then-meets_marks
loop-e-preserved-then-meets_marks c =
    let loop = c.loop-e in
    let next = kept (goal.at.loop-e-preserved-then-meets_marks c).Then-meets_marks in (
      storing_next loop.invariant.0 next (slots_turned c.args.set.now.slots (loop.e - 1)) _
          (c.put_slots.ensures
          ∙ ap (λ (l : List ℕ). sets loop.slots (loop.k * 8) (pad 8 65535 l)) (back_cells _ c.args.set.now.slots _ c.slots_at-list.ensures _ c.reversed.ensures)),
      storing_next loop.invariant.1 next refl _ (single_store loop.rests loop.k (get_or c.args.set.now.rests (loop.e - 1) 0)),
    )

pub loop-e-preserved : goal.loop-e-preserved
loop-e-preserved c =
    let loop = c.loop-e in
    let next = place_passed c.args.marks.now c.args.set.now.slots c.args.bounds.first_equation loop.e c.loop-e-test.true
    (listed_marked _ c.args.set.now.slots _ c.slots_at-list.ensures c.args.marks.now _ (sym c.meets_marks.ensures ∙ c.if-meets_marks.false)) in
    (storing_pass loop.invariant.0 next, storing_pass loop.invariant.1 next)

pub returns : goal.returns
returns c =
    let loop = c.loop-e in
    let none = place_none c.args.marks.now c.args.set.now.slots c.args.bounds.first_equation loop.e c.loop-e-test.false in
    let slots = storing_end loop.invariant.0 none in
    let rests = storing_end loop.invariant.1 none in
    record { value = slots.0; slots_after = slots.1; rests_after = single_stored (λ x. get_or c.args.set.now.rests x 0) c.args.rests.now c.args.at (places_shown c.args.marks.now c.args.set.now c.args.bounds) loop.rests rests.1 }
