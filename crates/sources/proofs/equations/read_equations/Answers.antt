-- `sources::equations::read_equations` meets its contract. The loop's invariant: storing the equations of the sources from i on, from place i on, gives what
-- storing all gives. Rests on the laws of `Written` and `PlainReading`. Assumes nothing.
use mathlib.Core.Path.{refl}
use Prim.Native.Nat.{◌*◌, ◌≤◌, ◌<◌}
use native.Mathlib.Omega.{arith}
use lib.ListN.{length, replicate, length-take}
use Rattle.lists.proofs.Arrays.{drop_none}
use Rattle.grid.specs.Cells.{shows}
use Rattle.blocks.specs.BlockSets.{slot_cells}
use Rattle.blocks.proofs.EightCells.{cells_listed}
use Rattle.blocks.proofs.Between.{slots_eight}
use Rattle.sources.specs.Reading.{Cells}
use Rattle.sources.proofs.Found.{found_more, found_on_board, found_open}
use Rattle.sources.proofs.SourceLaws.{read_none}
use Rattle.sources.proofs.Written.{written_none, written_more}
use Rattle.sources.proofs.ReadSources.{all_open_lem, all_listed, listed_cells}
use Rattle.sources.proofs.PlainReading.{length_beside, equations_stored}
use Rattle.sources.proofs.equations.read_equations.Goals as goal
use Rattle.sources.proofs.equations.read_equations.Goals.{After-read, After-as_slice-source-items, After-wide-c}

pub read-requires-clause-read : goal.read-requires-clause-read
read-requires-clause-read c = read_none _ _ _ refl

-- the sources listed are cells
listed : (c : After-read) → Cells c.read.new.self.list.cells c.read.new.self.list.len
listed c = listed_cells _ c.requires.board c.read.ensures

pub as_slice-source-items-requires : goal.as_slice-source-items-requires
as_slice-source-items-requires c = (listed (goal.at.as_slice-source-items-requires c).After-read).few

few : (c : After-as_slice-source-items) → length c.as_slice-source-items.result.now ≤ 1024
few c = rw c.as_slice-source-items.ensures (omega (arith, (listed (goal.at.After-as_slice-source-items c).After-read).few, length-take c.read.new.self.list.len c.read.new.self.list.cells))

-- the next source is an open cell of the board
on_board : (c : After-wide-c) → c.wide-c.result < 1024
on_board c =
    let items = c.as_slice-source-items.ensures in
    rw c.wide-c.ensures (found_on_board _ c.loop-i.i c.loop-i-test.true (rw items (listed (goal.at.After-wide-c c).After-read).on_board))

open_cell : (c : After-wide-c) → (c.wide-c.result < c.args.size.rows * c.args.size.columns) × (shows c.args.position.now c.wide-c.result ≤ 8)
open_cell c =
    let items = c.as_slice-source-items.ensures in
    rw c.wide-c.ensures
    (found_open _ c.loop-i.i c.loop-i-test.true (c.args.size.rows * c.args.size.columns) c.args.position.now
    (rw items (all_open_lem _ c.requires.board c.read.ensures _ (all_listed _ c.requires.board c.read.ensures))))

pub loop-i-init : goal.loop-i-init
loop-i-init c = rw (c.requires.slots_value.0, c.requires.slots_value.1) (written_none _ _ (replicate 8192 65535) (replicate 1024 0) _ 0 refl refl)

pub slots_at-requires : goal.slots_at-requires
slots_at-requires c = (c.read.ensures.wide, on_board (goal.at.slots_at-requires c).After-wide-c)

pub put_slots-requires : goal.put_slots-requires
put_slots-requires c =
    let most = few (goal.at.put_slots-requires c).After-as_slice-source-items in
    (c.loop-i.invariant.slots_long, omega arith, rw c.slots_at.ensures (slots_eight c.read.new.self.beside c.wide-c.result))

pub rest_of-requires-clause-c_bound : goal.rest_of-requires-clause-c_bound
rest_of-requires-clause-c_bound c = open_cell (goal.at.rest_of-requires-clause-c_bound c).After-wide-c

pub bounds-rests-i : goal.bounds-rests-i
bounds-rests-i c = let most = few (goal.at.bounds-rests-i c).After-as_slice-source-items in omega arith

pub loop-i-preserved : goal.loop-i-preserved
loop-i-preserved c =
    let l = c.loop-i in
    let next = found_more c.as_slice-source-items.result.now l.i c.loop-i-test.true in
    let held = cells_listed (slot_cells c.read.new.self.beside c.wide-c.result) c.slots_at.ensures in
    rw (c.put_slots.ensures, held, c.rest_of.ensures)
    (written_more _ _ (rw (next, ← c.wide-c.ensures) at l.invariant) (length_beside c.read.new.self.beside c.wide-c.result))

pub returns : goal.returns
returns c =
    let l = c.loop-i in
    let end = rw (drop_none c.as_slice-source-items.result.now l.i c.loop-i-test.false, c.as_slice-source-items.ensures) at l.invariant in
    equations_stored _ c.requires.board c.read.ensures l.slots l.rests end.slots_left end.rests_left
