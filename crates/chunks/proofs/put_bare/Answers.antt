-- `chunks::put_bare` meets its contract: the slots of an equation without cells are fillers already, so that only its remainder and the ends are stored.
-- Rests on `put_bare`. Assumes nothing.
use mathlib.Core.Path.{◌∙◌}
use native.Mathlib.Omega.{arith}
use Rattle.blocks.proofs.Behind.{room_blocks}
use Rattle.chunks.proofs.Bare.{bare_next, bare_last, put_bare}
use Rattle.chunks.proofs.put_bare.Goals as goal

pub next_equation-e-requires : goal.next_equation-e-requires
next_equation-e-requires c = omega (arith, room_blocks c.args.out _ c.requires)

pub next_cell-end_cell-requires : goal.next_cell-end_cell-requires
next_cell-end_cell-requires c = omega (arith, room_blocks c.args.out _ c.requires)

pub bounds-out-e : goal.bounds-out-e
bounds-out-e c = bare_next c.args.out c.args.rest c.requires _ _ c.next_equation-e.ensures c.next_cell-end_cell.ensures

pub end_block-requires : goal.end_block-requires
end_block-requires c =
    let next = bare_next c.args.out c.args.rest c.requires _ _ c.next_equation-e.ensures c.next_cell-end_cell.ensures in
    let last = bare_last c.args.out c.args.rest c.requires _ _ c.next_equation-e.ensures c.next_cell-end_cell.ensures in
    (room_blocks c.args.out _ c.requires, last, omega arith)

pub returns : goal.returns
returns c = c.end_block.ensures ∙ put_bare c.args.out c.args.rest c.requires _ _ c.next_equation-e.ensures c.next_cell-end_cell.ensures
