-- `groups::fill_columns` meets its contract. As a cell's column has at most eight places in the end, there is room for each. Rests on the laws of
-- `PushedColumns`. Assumes nothing.
use Prim.Native.Nat.{◌+◌, ◌-◌}
use mathlib.Core.Path.{◌≡◌}
use native.Mathlib.Omega.{arith}
use Rattle.blocks.specs.BlockSets.{slot_cells}
use Rattle.blocks.specs.Places.{cells_in}
use Rattle.blocks.proofs.Between.{listed_on_board}
use Rattle.blocks.proofs.EightCells.{cells_listed}
use Rattle.groups.proofs.PushedColumns.{columns_none, columns_slots, columns_room, columns_next}
use Rattle.groups.proofs.fill_columns.Goals as goal
use Rattle.groups.proofs.fill_columns.Goals.{After-slots_at}

pub loop-e-init : goal.loop-e-init
loop-e-init c =
    let first = c.args.bounds.first_equation in
    let none : first - first ≡ 0 = omega arith in
    rw (c.requires.slots.2, none) (columns_none c.args.set.now.slots first)

-- the cells of the equation at e
cells : (c : After-slots_at)
    → (let first = c.args.bounds.first_equation in
    cells_in c.slots_at.result ≡ slot_cells c.args.set.now.slots (first + (c.loop-e.e - first)))
cells c =
    let first = c.args.bounds.first_equation in
    let at : first + (c.loop-e.e - first) ≡ c.loop-e.e = omega arith in
    rw at (cells_listed (slot_cells c.args.set.now.slots c.loop-e.e) c.slots_at.ensures)

pub push_equation-requires : goal.push_equation-requires
push_equation-requires c =
    let l = c.loop-e in
    let slots = c.args.set.now.slots in
    let first = c.args.bounds.first_equation in
    let end = c.args.bounds.end_equation in
    let at : first + (l.e - first) ≡ l.e = omega arith in
    let h = c.loop-e-test.true in
    let few = c.requires.slots.0.few in
    let below = c.requires.slots.0.below l.e h in
    let own = cells (goal.at.push_equation-requires c).After-slots_at in
    record {
      on_board = (listed_on_board c.slots_at.result slots l.e c.slots_at.ensures end c.requires.slots.0 h, rw (own, at) (c.requires.by_index l.e (omega arith) h), omega arith);
      slots = columns_slots slots first (l.e - first) l.invariant (omega arith);
      list_value = rw own (columns_room slots first (l.e - first) l.invariant (end - first) (omega arith) c.requires.by_index_2 (rw at below));
    }

pub loop-e-preserved : goal.loop-e-preserved
loop-e-preserved c =
    let l = c.loop-e in
    let first = c.args.bounds.first_equation in
    let more : l.e + 1 - first ≡ l.e - first + 1 = omega arith in
    rw more (columns_next c.args.set.now.slots first (l.e - first) l.invariant _ (rw (cells (goal.at.loop-e-preserved c).After-slots_at) at c.push_equation.ensures))
