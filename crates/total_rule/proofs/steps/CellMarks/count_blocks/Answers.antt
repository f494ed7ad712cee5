-- `total_rule::steps::CellMarks::count_blocks` meets its contract. The loop's invariant: the blocks before b are counted. Rests on CountedBlocks and on the contracts of
-- the calls. Assumes nothing.
use Prim.Native.Nat.{◌≤◌, ◌<◌}
use mathlib.Core.Path.{◌≡◌}
use native.Mathlib.Omega.{arith}
use lib.ListN.{length}
use Rattle.blocks.specs.BlockSets.{blocks_of}
use Rattle.blocks.proofs.Behind.{blocks_held}
use borrow.Author.Rules.{rules}
use Rattle.total_rule.specs.Blocks.{mine_allowed, free_allowed, any_count}
use Rattle.total_rule.proofs.CountedBlocks.{counted_none, turn_arrays, turn_order, turn_few, turn_combinable, counts_put, first_told, table_more}
use Rattle.total_rule.proofs.steps.CellMarks.count_blocks.Goals as goal
use Rattle.total_rule.proofs.steps.CellMarks.count_blocks.Goals.{After-bounds_at-bounds, In-loop-b}

-- the block is one of the set
inside : (c : In-loop-b) → c.loop-b.b < length (blocks_of c.args.set.now)
inside c = omega (arith, c.loop-b-test.true, blocks_held c.args.set.now c.requires.whole.0)

below : (c : In-loop-b) → c.loop-b.b < 1024
below c = omega (arith, inside c, c.requires.whole.0.fits.few_blocks)

-- the block's cells stand in order, on the board
order : (f : After-bounds_at-bounds) → (f.bounds_at-bounds.result.first_cell ≤ f.bounds_at-bounds.result.end_cell) × (f.bounds_at-bounds.result.end_cell ≤ 1024)
order f = (
  turn_order f.requires.whole.0 f.requires.combinable f.requires.whole.1 f.loop-b.b (inside (goal.at.After-bounds_at-bounds f).In-loop-b) f.bounds_at-bounds.ensures,
  turn_few f.requires.whole.0 f.requires.combinable f.requires.whole.1 f.loop-b.b (inside (goal.at.After-bounds_at-bounds f).In-loop-b) f.bounds_at-bounds.ensures,
)

pub loop-b-init : goal.loop-b-init
loop-b-init c = counted_none c.args.set.now c.args.counts.now c.args.self.now c.args.met.now (search rules) c.requires.table_below

pub bounds_at-bounds-requires : goal.bounds_at-bounds-requires
bounds_at-bounds-requires c = below (goal.at.bounds_at-bounds-requires c).In-loop-b

pub overflow_mul-b : goal.overflow_mul-b
overflow_mul-b c = omega (arith, below (goal.at.overflow_mul-b c).In-loop-b)

pub overflow_add-b : goal.overflow_add-b
overflow_add-b c = omega (arith, below (goal.at.overflow_add-b c).In-loop-b)

pub tell_block-reached-requires : goal.tell_block-reached-requires
tell_block-reached-requires c =
    let loop = c.loop-b in
    let i = inside (goal.at.tell_block-reached-requires c).In-loop-b in record {
      arrays = (turn_arrays c.requires.whole.0 c.requires.combinable c.requires.whole.1 loop.b i c.bounds_at-bounds.ensures, (order (goal.at.tell_block-reached-requires c).After-bounds_at-bounds).0);
      combinable = turn_combinable c.requires.whole.0 c.requires.combinable c.requires.whole.1 loop.b i c.bounds_at-bounds.ensures;
      table_below = (loop.invariant.table, omega (arith, below (goal.at.tell_block-reached-requires c).In-loop-b));
    }

pub overflow_sub-many : goal.overflow_sub-many
overflow_sub-many c = (order (goal.at.overflow_sub-many c).After-bounds_at-bounds).0

pub overflow_add-many : goal.overflow_add-many
overflow_add-many c = omega (arith, order (goal.at.overflow_add-many c).After-bounds_at-bounds)

pub overflow_add-bounds : goal.overflow_add-bounds
overflow_add-bounds c = omega (arith, order (goal.at.overflow_add-bounds c).After-bounds_at-bounds, below (goal.at.overflow_add-bounds c).In-loop-b)

pub put_counts-requires : goal.put_counts-requires
put_counts-requires c =
    let at = order (goal.at.put_counts-requires c).After-bounds_at-bounds in
    (omega (arith, at), omega (arith, at, below (goal.at.put_counts-requires c).In-loop-b))

pub loop-b-preserved : goal.loop-b-preserved
loop-b-preserved c =
    let loop = c.loop-b in
    let e = c.tell_block-reached.ensures in
    let i = inside (goal.at.loop-b-preserved c).In-loop-b in record {
      held = counts_put c.requires.whole.0 c.requires.combinable c.requires.whole.1 loop.b i c.bounds_at-bounds.ensures loop.invariant.held _ e.by_index c.put_counts.ensures;
      mines = first_told c.requires.whole.0 c.requires.combinable c.requires.whole.1 loop.b i c.bounds_at-bounds.ensures (mine_allowed any_count) loop.invariant.mines e.told_block;
      frees = first_told c.requires.whole.0 c.requires.combinable c.requires.whole.1 loop.b i c.bounds_at-bounds.ensures (free_allowed any_count) loop.invariant.frees e.told_block_2;
      table = table_more e.table_below_2 (omega arith);
    }

pub returns : goal.returns
returns c =
    let loop = c.loop-b in
    let all : loop.b ≡ length (blocks_of c.args.set.now) = omega (arith, c.loop-b.auto.b-end, c.loop-b-test.false, blocks_held c.args.set.now c.requires.whole.0) in
    rw (← all) record { counts_held = loop.invariant.held; cells_told = loop.invariant.mines; cells_told_2 = loop.invariant.frees; table_below_2 = loop.invariant.table }
