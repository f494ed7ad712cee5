-- `marks::left::left_equations` meets its contract. The loop's invariant: the equations from place e on that stay, stored from place k on, give what all of them give
-- from `at` on, eight slots and a remainder each. Rests on the laws of `Storing`. Assumes nothing.
use Prim.Native.Nat.{ℕ, ◌+◌, ◌*◌, ◌<◌}
use mathlib.Core.Path.{◌≡◌, refl, sym, ap, ◌∙◌}
use mathlib.Core.List.{List, ◌∷◌}
use native.Mathlib.Omega.{arith}
use lib.ListN.{set}
use lib.Seq.{sets}
use Rattle.lists.proofs.Storing.{storing_start, storing_room, storing_next, storing_pass, storing_end, single_store, single_stored}
use Rattle.blocks.proofs.Between.{listed_on_board}
use Rattle.marks.specs.Marked.{stays}
use Rattle.marks.proofs.LeftEquations.{left_at, left_places, left_kept, left_passed, left_none, left_count, left_slots_are, left_rests_are, left_eight, left_rest_is, left_list_few, left_list_slots}
use Rattle.marks.proofs.left.left_equations.Goals as goal
use Rattle.marks.proofs.left.left_equations.Goals.{After-left_rest-rest, After-rest_stays, Then-rest_stays, then-rest_stays, else-rest_stays}

pub loop-e-init : goal.loop-e-init
loop-e-init c = (storing_start c.told-out_slots, storing_start c.told-out_rests)

pub slots_at-list-requires : goal.slots_at-list-requires
slots_at-list-requires c = (c.requires.slots.whole, omega (arith, c.requires.slots.few, c.loop-e-test.true))

pub left_rest-rest-requires : goal.left_rest-rest-requires
left_rest-rest-requires c = listed_on_board _ c.args.set.now.slots _ c.slots_at-list.ensures c.args.end c.requires.slots c.loop-e-test.true

-- the remainder
rest : (c : After-left_rest-rest) → c.left_rest-rest.result ≡ (left_at c.args.known.now.subtracted c.args.known.now.mines c.args.known.now.cells c.args.set.now.slots c.args.set.now.rests c.loop-e.e).rest
rest c = left_rest_is c.args.known.now.subtracted c.args.known.now.mines c.args.known.now.cells c.args.set.now.slots c.args.set.now.rests _ _ c.slots_at-list.ensures _ c.left_rest-rest.ensures

-- whether the equation stays
is : (c : After-rest_stays) → c.rest_stays.result ≡ stays c.args.known.now.subtracted (left_at c.args.known.now.subtracted c.args.known.now.mines c.args.known.now.cells c.args.set.now.slots c.args.set.now.rests c.loop-e.e)
is c = c.rest_stays.ensures (left_at c.args.known.now.subtracted c.args.known.now.mines c.args.known.now.cells c.args.set.now.slots c.args.set.now.rests c.loop-e.e) (sym (rest (goal.at.After-rest_stays c).After-left_rest-rest))

-- one that stays is the next
next : (c : Then-rest_stays) → left_places c.args.known.now.subtracted c.args.known.now.mines c.args.known.now.cells c.args.set.now.slots c.args.set.now.rests c.loop-e.e c.args.end ≡ c.loop-e.e ∷ left_places c.args.known.now.subtracted c.args.known.now.mines c.args.known.now.cells c.args.set.now.slots c.args.set.now.rests (c.loop-e.e + 1) c.args.end
next c = left_kept c.args.known.now.subtracted c.args.known.now.mines c.args.known.now.cells c.args.set.now.slots c.args.set.now.rests c.loop-e.e c.args.end c.loop-e-test.true (sym (is (goal.at.Then-rest_stays c).After-rest_stays) ∙ c.if-rest_stays.true)

-- and there is room for it
room : (c : Then-rest_stays) → c.loop-e.k < 1024
room c = storing_room c.loop-e.invariant.1 (next c) 1024 (omega (arith, c.requires.room, left_count c.args.known.now.subtracted c.args.known.now.mines c.args.known.now.cells c.args.set.now.slots c.args.set.now.rests c.args.first c.args.end))

pub left_list-requires : goal.left_list-requires
left_list-requires c = listed_on_board _ c.args.set.now.slots _ c.slots_at-list.ensures c.args.end c.requires.slots c.loop-e-test.true

pub put_slots-requires : goal.put_slots-requires
put_slots-requires c = (c.loop-e.invariant.0.long, room (goal.at.put_slots-requires c).Then-rest_stays, left_list_few c.args.known.now.subtracted c.args.known.now.mines c.args.known.now.cells c.args.set.now.slots c.args.set.now.rests _ _ c.slots_at-list.ensures _ c.left_list.ensures)

pub bounds-out_rests-k : goal.bounds-out_rests-k
bounds-out_rests-k c = room (goal.at.bounds-out_rests-k c).Then-rest_stays

pub overflow_add-k : goal.overflow_add-k
overflow_add-k c = omega (arith, room (goal.at.overflow_add-k c).Then-rest_stays)

pub loop-e-preserved : goal.loop-e-preserved
loop-e-preserved c =
    let loop = c.loop-e in
    let stay = is (goal.at.loop-e-preserved c).After-rest_stays in
    elim c.if-rest_stays.branch [
      | then-rest_stays w ↦ let more = left_kept c.args.known.now.subtracted c.args.known.now.mines c.args.known.now.cells c.args.set.now.slots c.args.set.now.rests loop.e c.args.end c.loop-e-test.true (sym stay ∙ w.if-rest_stays.true) in
          rw (w.out_slots-is, w.out_rests-is, w.k-is) (
            storing_next loop.invariant.0 more (left_eight c.args.known.now.subtracted c.args.known.now.mines c.args.known.now.cells c.args.set.now.slots c.args.set.now.rests loop.e) _
                (w.put_slots.ensures ∙ ap (λ (l : List ℕ). sets loop.out_slots (loop.k * 8) l) (left_list_slots c.args.known.now.subtracted c.args.known.now.mines c.args.known.now.cells c.args.set.now.slots c.args.set.now.rests _ loop.e c.slots_at-list.ensures _ w.left_list.ensures)),
            storing_next loop.invariant.1 more refl _
                (ap (λ (y : ℕ). set loop.out_rests loop.k y) (rest (goal.at.loop-e-preserved c).After-left_rest-rest) ∙ single_store loop.out_rests loop.k (left_at c.args.known.now.subtracted c.args.known.now.mines c.args.known.now.cells c.args.set.now.slots c.args.set.now.rests loop.e).rest),
          )
      | else-rest_stays w ↦ let less = left_passed c.args.known.now.subtracted c.args.known.now.mines c.args.known.now.cells c.args.set.now.slots c.args.set.now.rests loop.e c.args.end c.loop-e-test.true (sym stay ∙ w.if-rest_stays.false) in
          rw (w.out_slots-is, w.out_rests-is, w.k-is) (storing_pass loop.invariant.0 less, storing_pass loop.invariant.1 less)
    ]

pub returns : goal.returns
returns c =
    let loop = c.loop-e in
    let none = left_none c.args.known.now.subtracted c.args.known.now.mines c.args.known.now.cells c.args.set.now.slots c.args.set.now.rests loop.e c.args.end c.loop-e-test.false in
    let slots = storing_end loop.invariant.0 none in
    let rests = storing_end loop.invariant.1 none in
    record {
      value = omega (arith, slots.0, left_count c.args.known.now.subtracted c.args.known.now.mines c.args.known.now.cells c.args.set.now.slots c.args.set.now.rests c.args.first c.args.end);
      slots_after = slots.1 ∙ ap (λ (l : List ℕ). sets c.args.out_slots.now (c.args.at * 8) l) (sym (left_slots_are c.args.known.now.subtracted c.args.known.now.mines c.args.known.now.cells c.args.set.now.slots c.args.set.now.rests c.args.first c.args.end));
      rests_after = single_stored (λ (x : ℕ). (left_at c.args.known.now.subtracted c.args.known.now.mines c.args.known.now.cells c.args.set.now.slots c.args.set.now.rests x).rest) c.args.out_rests.now c.args.at (left_places c.args.known.now.subtracted c.args.known.now.mines c.args.known.now.cells c.args.set.now.slots c.args.set.now.rests c.args.first c.args.end) loop.out_rests rests.1
          ∙ ap (λ (l : List ℕ). sets c.args.out_rests.now c.args.at l) (sym (left_rests_are c.args.known.now.subtracted c.args.known.now.mines c.args.known.now.cells c.args.set.now.slots c.args.set.now.rests c.args.first c.args.end));
    }
