-- `groups::fill_groups` meets its contract. As in the end no group has more than eight cells, a size fits. Rests on the laws of `GrownGroups`. Assumes nothing.
use Prim.Native.Nat.{◌+◌, ◌≤◌, ◌<◌}
use mathlib.Core.Path.{◌≡◌, sym, ◌∙◌}
use mathlib.Core.List.{[], ◌∷◌, ◌++◌}
use native.Mathlib.Numerals.{add-one}
use native.Mathlib.Omega.{arith}
use lib.Dec.{ltb}
use lib.ListN.{length, take, drop, length-take, take-append-drop}
use lib.Seq.{take-suc, take_all, length-take-le}
use borrow.Author.Tests.{ltb-true}
use Rattle.lists.specs.Lists.{first_place}
use Rattle.lists.proofs.All.{all_at, all_take}
use Rattle.blocks.specs.BlockSets.{slot_cells}
use Rattle.groups.specs.Combining.{alike_by}
use Rattle.groups.proofs.FirstsOfClasses.{same_equivalence}
use Rattle.groups.proofs.GrownGroups.{groups_few, groups_long, groups_below, groups_small, groups_within, groups_there, groups_new}
use Rattle.groups.proofs.fill_groups.Goals as goal
use Rattle.groups.proofs.fill_groups.Goals.{After-wide-c, Joined-first_alike, in-Some, in-None}

-- the next cell is on the board, and there is room for a group more
on_board : (c : After-wide-c) → c.wide-c.result < 1024
on_board c = rw c.wide-c.ensures (ltb-true _ 1024 (all_at (λ d. ltb d 1024) c.args.cells.now c.loop-cell.cell-index 0 c.requires.cells.0 c.loop-cell-test.true))

room : (c : After-wide-c) → c.loop-cell.n < 1024
room c =
    let few = c.requires.cells.1 in
    omega (arith, groups_few (same_equivalence (slot_cells c.args.columns.now)) c.loop-cell.invariant, length-take c.loop-cell.cell-index c.args.cells.now)

long : (c : After-wide-c) → length (take c.loop-cell.n c.loop-cell.firsts) ≡ c.loop-cell.n
long c =
    let few = c.requires.cells.1 in
    let whole = groups_long (same_equivalence (slot_cells c.args.columns.now)) c.loop-cell.invariant (omega (arith, length-take c.loop-cell.cell-index c.args.cells.now)) in
    length-take-le c.loop-cell.n c.loop-cell.firsts (omega (arith, room c))

pub shared_ref_as_front-first_alike : goal.shared_ref_as_front-first_alike
shared_ref_as_front-first_alike c = omega (arith, room (goal.at.shared_ref_as_front-first_alike c).After-wide-c)

pub first_alike-requires : goal.first_alike-requires
first_alike-requires c =
    let below = groups_below (same_equivalence (slot_cells c.args.columns.now)) c.loop-cell.invariant (all_take (λ d. ltb d 1024) c.loop-cell.cell-index c.args.cells.now c.requires.cells.0) in
    (below, on_board (goal.at.first_alike-requires c).After-wide-c)

pub offset_bounds-firsts-n : goal.offset_bounds-firsts-n
offset_bounds-firsts-n c = omega (arith, room (goal.at.offset_bounds-firsts-n c).After-wide-c)

pub bounds-firsts-n : goal.bounds-firsts-n
bounds-firsts-n c = room (goal.at.bounds-firsts-n c).After-wide-c

-- the cell's group is the place of the first cell that is like it
place : (c : Joined-first_alike) → c.match-first_alike.g ≡ first_place (alike_by c.args.columns.now c.wide-c.result) (take c.loop-cell.n c.loop-cell.firsts)
place c =
    elim c.match-first_alike.branch [
      | in-Some w ↦ w.g-is ∙ w.in-Some.ensures.place
      | in-None w ↦
          let last : c.match-first_alike.g ≡ c.loop-cell.n = omega (arith, w.g-is) in
          last ∙ sym (long (goal.at.Joined-first_alike c).After-wide-c) ∙ w.in-None.ensures.place
    ]

within : (c : Joined-first_alike) → c.match-first_alike.g ≤ c.loop-cell.n
within c =
    let at = (goal.at.Joined-first_alike c).After-wide-c in
    groups_within (same_equivalence (slot_cells c.args.columns.now)) c.loop-cell.invariant c.wide-c.result c.match-first_alike.g (on_board at) (place c)

pub bounds-sizes-g : goal.bounds-sizes-g
bounds-sizes-g c = omega (arith, within (goal.at.bounds-sizes-g c).Joined-first_alike, room (goal.at.bounds-sizes-g c).After-wide-c)

pub overflow_add-sizes : goal.overflow_add-sizes
overflow_add-sizes c =
    let l = c.loop-cell in
    let parted = take-append-drop l.cell-index c.args.cells.now in
    omega (
      arith,
      groups_small (same_equivalence (slot_cells c.args.columns.now)) l.invariant (drop l.cell-index c.args.cells.now) (rw parted c.requires.few_alike) c.match-first_alike.g,
    )

pub bounds-sizes-g-in-loop-cell : goal.bounds-sizes-g-in-loop-cell
bounds-sizes-g-in-loop-cell c = omega (arith, within (goal.at.bounds-sizes-g-in-loop-cell c).Joined-first_alike, room (goal.at.bounds-sizes-g-in-loop-cell c).After-wide-c)

pub loop-cell-preserved : goal.loop-cell-preserved
loop-cell-preserved c =
    let l = c.loop-cell in
    let at = (goal.at.loop-cell-preserved c).After-wide-c in
    let same = same_equivalence (slot_cells c.args.columns.now) in
    let first = place (goal.at.loop-cell-preserved c).Joined-first_alike in
    let next : take (l.cell-index + 1) c.args.cells.now ≡ take l.cell-index c.args.cells.now ++ (c.wide-c.result ∷ []) =
    rw (add-one, c.wide-c.ensures) (take-suc c.args.cells.now l.cell-index 0 c.loop-cell-test.true) in
    elim c.match-first_alike.branch [
      | in-Some w ↦
          let inside = w.in-Some.ensures.inside in
          let other : c.match-first_alike.g ≡ l.n → ⊥ = λ e. omega (arith, long at, w.g-is) in
          rw (w.firsts-is, w.n-is, next) (groups_there same l.invariant c.wide-c.result c.match-first_alike.g (on_board at) first other)
      | in-None w ↦
          let last : c.match-first_alike.g ≡ l.n = omega (arith, w.g-is) in
          rw (w.firsts-is, w.n-is, next, ← c.wide-c.ensures) (groups_new same l.invariant c.wide-c.result c.match-first_alike.g (on_board at) first last (room at))
    ]

pub returns : goal.returns
returns c = rw (take_all c.loop-cell.cell-index c.args.cells.now (omega arith)) at c.loop-cell.invariant
