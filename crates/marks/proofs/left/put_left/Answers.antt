-- `marks::left::put_left` meets its contract: what the functions that it calls store is what one block more has in each array, and where no cell is left after
-- subtraction nothing is stored. Rests on `left_put`. Assumes nothing.
use mathlib.Core.Path.{◌≡◌, ◌∙◌}
use mathlib.Core.Bool.{false, ◌&&◌}
use mathlib.Core.List.{[], ◌∷◌}
use mathlib.Core.Logic.{inl, inr}
use Prim.Native.Nat.{◌+◌, ◌≤◌}
use native.Mathlib.Omega.{arith}
use lib.ListN.{length}
use Rattle.lists.specs.Lists.{empty}
use Rattle.blocks.specs.Places.{Room}
use Rattle.blocks.proofs.Behind.{cells_long, blocks_held, room_blocks}
use Rattle.marks.proofs.LeftBehind.{left_cells, left_rows, left_whole, left_cells_fit, left_nothing, left_goes, left_room, left_equations_fit, left_put}
use Rattle.marks.proofs.left.put_left.Goals as goal
use Rattle.marks.proofs.left.put_left.Goals.{After-next_equation-e, After-left_equations-next, Joined-known, else-known, then-known+else-last-k}

pub next_cell-k-requires : goal.next_cell-k-requires
next_cell-k-requires c = omega (arith, blocks_held c.args.out c.requires.room.held, c.requires.room.held.fits.few_blocks)

pub list_cells-last-requires : goal.list_cells-last-requires
list_cells-last-requires c = record { cells = c.requires.arrays.in_cells; out_len = cells_long c.args.out c.requires.room.held; room = left_cells_fit c.args.known.now.subtracted c.args.known.now.mines c.args.known.now.cells c.args.set.now.cells c.args.set.now.slots c.args.set.now.rests c.args.bounds c.args.out c.requires.room _ c.next_cell-k.ensures }

pub returns-then-last-k : goal.returns-then-last-k
returns-then-last-k c = left_nothing c.args.known.now.subtracted c.args.known.now.mines c.args.known.now.cells c.args.set.now.cells c.args.set.now.slots c.args.set.now.rests c.args.bounds c.args.out c.requires.room _ c.next_cell-k.ensures _ c.list_cells-last.ensures.value _ c.list_cells-last.ensures.out_after c.if-known.true c.if-last-k.true

pub next_equation-e-requires : goal.next_equation-e-requires
next_equation-e-requires c = omega (arith, blocks_held c.args.out c.requires.room.held, c.requires.room.held.fits.few_blocks)

-- there is a cell left, or a block without cells stays
goes : (c : Joined-known) → (c.args.known.now.subtracted && empty (left_cells c.args.known.now.subtracted c.args.known.now.mines c.args.known.now.cells c.args.set.now.cells c.args.set.now.slots c.args.set.now.rests c.args.bounds)) ≡ false
goes c =
    left_goes c.args.known.now.subtracted c.args.known.now.mines c.args.known.now.cells c.args.set.now.cells c.args.set.now.slots c.args.set.now.rests c.args.bounds c.args.out c.requires.room _ c.next_cell-k.ensures _ c.list_cells-last.ensures.value _ c.list_cells-last.ensures.out_after (elim c.if-known.branch [
      | then-known+else-last-k w ↦ inl (w.if-known.true, w.if-last-k.false)
      | else-known w ↦ inr w.if-known.false
    ])

-- so there is room for what is left
equations : (c : After-next_equation-e) → c.next_equation-e.result + length (left_rows c.args.known.now.subtracted c.args.known.now.mines c.args.known.now.cells c.args.set.now.cells c.args.set.now.slots c.args.set.now.rests c.args.bounds) ≤ 1024
equations c = left_equations_fit c.args.known.now.subtracted c.args.known.now.mines c.args.known.now.cells c.args.set.now.cells c.args.set.now.slots c.args.set.now.rests c.args.bounds c.args.out c.requires.room _ c.next_cell-k.ensures _ c.list_cells-last.ensures.value _ c.list_cells-last.ensures.out_after (goes (goal.at.After-next_equation-e c).Joined-known) _ c.next_equation-e.ensures

room : (c : After-left_equations-next) → Room c.args.out (left_whole c.args.known.now.subtracted c.args.known.now.mines c.args.known.now.cells c.args.set.now.cells c.args.set.now.slots c.args.set.now.rests c.args.bounds ∷ [])
room c = left_room c.args.known.now.subtracted c.args.known.now.mines c.args.known.now.cells c.args.set.now.cells c.args.set.now.slots c.args.set.now.rests c.args.bounds c.args.out c.requires.room _ c.next_cell-k.ensures _ c.list_cells-last.ensures.value _ c.list_cells-last.ensures.out_after (goes (goal.at.After-left_equations-next c).Joined-known)

pub left_equations-next-requires : goal.left_equations-next-requires
left_equations-next-requires c = record { slots = c.requires.arrays.in_slots; room = equations (goal.at.left_equations-next-requires c).After-next_equation-e }

pub end_block-requires : goal.end_block-requires
end_block-requires c = (
  room_blocks c.args.out _ (room (goal.at.end_block-requires c).After-left_equations-next),
  omega (arith, c.list_cells-last.ensures.value, left_cells_fit c.args.known.now.subtracted c.args.known.now.mines c.args.known.now.cells c.args.set.now.cells c.args.set.now.slots c.args.set.now.rests c.args.bounds c.args.out c.requires.room _ c.next_cell-k.ensures),
  omega (arith, c.left_equations-next.ensures.value, equations (goal.at.end_block-requires c).After-next_equation-e),
)

pub returns : goal.returns
returns c = c.end_block.ensures ∙ left_put c.args.known.now.subtracted c.args.known.now.mines c.args.known.now.cells c.args.set.now.cells c.args.set.now.slots c.args.set.now.rests c.args.bounds c.args.out c.requires.room _ c.next_cell-k.ensures _ c.list_cells-last.ensures.value _ c.list_cells-last.ensures.out_after (goes (goal.at.returns c).Joined-known) _ c.next_equation-e.ensures _ c.left_equations-next.ensures.value _ c.left_equations-next.ensures.slots_after _ c.left_equations-next.ensures.rests_after
