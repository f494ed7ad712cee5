-- `total_rule::steps::CellMarks::join_blocks` meets its contract. The loop's invariant: the blocks before b are told what is left. Rests on CountedBlocks and on the
-- contracts of the calls. Assumes nothing.
use Prim.Native.Nat.{ℕ, ◌≤◌, ◌<◌}
use mathlib.Core.Path.{◌≡◌, refl, ◌∙◌}
use mathlib.Core.Bool.{true}
use lib.Dec.{eqb}
use native.Mathlib.Omega.{arith}
use lib.ListN.{length, get_or}
use Rattle.blocks.specs.BlockSets.{blocks_of}
use Rattle.blocks.specs.Places.{bounds_of}
use Rattle.blocks.proofs.Behind.{blocks_held}
use Rattle.totals.specs.Joining.{counts_at, EndsInOrder}
use Rattle.total_rule.proofs.CountedBlocks.{joined_none, ends_in_order, turn_arrays, turn_order, turn_combinable, mine_again, free_again, mine_kept, free_kept, table_more}
use Rattle.total_rule.proofs.steps.CellMarks.join_blocks.Goals as goal
use Rattle.total_rule.proofs.steps.CellMarks.join_blocks.Goals.{In-loop-b, Start, else-not-all_allowed, then-not-all_allowed}

-- the block is one of the set
inside : (c : In-loop-b) → c.loop-b.b < length (blocks_of c.args.set.now)
inside c = omega (arith, c.loop-b-test.true, blocks_held c.args.set.now c.requires.whole.0)

below : (c : In-loop-b) → c.loop-b.b < 1024
below c = omega (arith, inside c, c.requires.whole.0.fits.few_blocks)

-- so many blocks
many : (c : In-loop-b) → c.args.set.now.blocks ≤ 1024
many c = omega (arith, blocks_held c.args.set.now c.requires.whole.0, c.requires.whole.0.fits.few_blocks)

-- their ends
in_order : (s : Start) → EndsInOrder s.args.set.now.cell_ends s.args.set.now.blocks
in_order s = ends_in_order s.requires.whole.0 s.requires.combinable s.requires.whole.1

pub loop-b-init : goal.loop-b-init
loop-b-init c = joined_none c.args.set.now c.args.inside c.args.rest c.args.self.now c.args.met.now c.requires.table_below

pub sums_but-sums-requires : goal.sums_but-sums-requires
sums_but-sums-requires c = (in_order (goal.at.sums_but-sums-requires c).Start, c.requires.counts_held.1, c.requires.counts_held.2)

pub counts_of-requires : goal.counts_of-requires
counts_of-requires c = (in_order (goal.at.counts_of-requires c).Start, c.loop-b-test.true)

pub bounds_at-bounds-requires : goal.bounds_at-bounds-requires
bounds_at-bounds-requires c = below (goal.at.bounds_at-bounds-requires c).In-loop-b

pub overflow_add-set : goal.overflow_add-set
overflow_add-set c = omega (arith, below (goal.at.overflow_add-set c).In-loop-b, many (goal.at.overflow_add-set c).In-loop-b)

pub overflow_mul-set : goal.overflow_mul-set
overflow_mul-set c = omega (arith, below (goal.at.overflow_mul-set c).In-loop-b, many (goal.at.overflow_mul-set c).In-loop-b)

pub overflow_add-set-then-not-all_allowed : goal.overflow_add-set-then-not-all_allowed
overflow_add-set-then-not-all_allowed c = omega (arith, below (goal.at.overflow_add-set-then-not-all_allowed c).In-loop-b, many (goal.at.overflow_add-set-then-not-all_allowed c).In-loop-b)

pub tell_block-requires : goal.tell_block-requires
tell_block-requires c =
    let loop = c.loop-b in
    let i = inside (goal.at.tell_block-requires c).In-loop-b in
    let held = blocks_held c.args.set.now c.requires.whole.0 in record {
      arrays = (
        turn_arrays c.requires.whole.0 c.requires.combinable c.requires.whole.1 loop.b i c.bounds_at-bounds.ensures,
        turn_order c.requires.whole.0 c.requires.combinable c.requires.whole.1 loop.b i c.bounds_at-bounds.ensures,
      );
      combinable = turn_combinable c.requires.whole.0 c.requires.combinable c.requires.whole.1 loop.b i c.bounds_at-bounds.ensures;
      table_below = (table_more loop.invariant.table (omega (arith, held)), omega (arith, below (goal.at.tell_block-requires c).In-loop-b, many (goal.at.tell_block-requires c).In-loop-b));
    }

pub loop-b-preserved : goal.loop-b-preserved
loop-b-preserved c =
    let loop = c.loop-b in
    let so_far = loop.invariant in
    let set = c.args.set.now in
    let sums = c.sums_but-sums in
    let left = c.allowed_counts-allowed in
    let counts = c.args.counts.now in
    let held = c.requires.counts_held.0 in
    let i = inside (goal.at.loop-b-preserved c).In-loop-b in
    let blocks = blocks_held set c.requires.whole.0 in
    elim c.if-not-all_allowed.branch [
      | then-not-all_allowed w ↦ let e = w.tell_block.ensures in
          rw (w.self-is, w.met-is) record {
            mines = λ near p before total is free rest told.
                mine_again c.requires.whole.0 c.requires.combinable c.requires.whole.1 near p total c.args.inside c.args.rest is free rest counts held loop.b i sums.result left.result sums.ensures left.ensures.1
                w.bounds_at-bounds.ensures (so_far.mines near p before total is free rest told) e.told_block;
            frees = λ near p before total is free rest told.
                free_again c.requires.whole.0 c.requires.combinable c.requires.whole.1 near p total c.args.inside c.args.rest is free rest counts held loop.b i sums.result left.result sums.ensures left.ensures.1
                w.bounds_at-bounds.ensures (so_far.frees near p before total is free rest told) e.told_block_2;
            table = table_more e.table_below_2 (omega (arith, blocks));
          }
      | else-not-all_allowed w ↦
          let each : (t : ℕ) → counts_at counts set.cell_ends loop.b t ≡ true → eqb (get_or left.result t 0) 1 ≡ true =
          λ t k. c.all_allowed.ensures w.if-not-all_allowed.false t (c.counts_of.ensures.held t ∙ k) in
          rw (w.self-is, w.met-is) record {
            mines = λ near p before total is free rest told.
                mine_kept c.requires.whole.0 c.requires.combinable c.requires.whole.1 near p total c.args.inside c.args.rest is free rest counts held loop.b i sums.result left.result sums.ensures left.ensures.1
                {bounds = bounds_of set loop.b} refl each (so_far.mines near p before total is free rest told);
            frees = λ near p before total is free rest told.
                free_kept c.requires.whole.0 c.requires.combinable c.requires.whole.1 near p total c.args.inside c.args.rest is free rest counts held loop.b i sums.result left.result sums.ensures left.ensures.1
                {bounds = bounds_of set loop.b} refl each (so_far.frees near p before total is free rest told);
            table = table_more so_far.table (omega arith);
          }
    ]

pub returns : goal.returns
returns c =
    let loop = c.loop-b in
    let all : loop.b ≡ length (blocks_of c.args.set.now) = omega (arith, c.loop-b.auto.b-end, c.loop-b-test.false, blocks_held c.args.set.now c.requires.whole.0) in
    record { by_index = rw all at loop.invariant.mines; by_index_2 = rw all at loop.invariant.frees }
