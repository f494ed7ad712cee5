-- An equation without cells put behind the blocks of a set: its slots are fillers already, so only a remainder and two ends are stored. Rests on
-- `put_behind`. Assumes nothing.
use mathlib.Core.Path.{◌≡◌, ap, ◌∙◌}
use mathlib.Core.Bool.{true}
use mathlib.Core.List.{List, [], ◌∷◌, ◌++◌, map}
use Prim.Native.Nat.{ℕ, ◌+◌, ◌*◌, ◌≤◌, ◌<◌}
use native.Mathlib.Omega.{arith}
use lib.ListN.{length, set}
use lib.Seq.{sets}
use Rattle.lists.specs.Lists.{all, joined, pad}
use Rattle.lists.proofs.Joined.{joined_push}
use Rattle.lists.proofs.Storing.{pad_filler}
use Rattle.blocks.specs.Blocks.{BlockEquation, Block}
use Rattle.blocks.specs.BlockSets.{all_cells, all_equations, slots_of, block_set, begin_at, blocks_of, small_equation, Small}
use Rattle.blocks.specs.Places.{Room}
use Rattle.blocks.specs.declared.BlockSet.{BlockSet}
use Rattle.blocks.proofs.Slots.{all_slots, length_all_slots, put_slots_push}
use Rattle.blocks.proofs.Behind.{cells_held, equations_held, room_equations, put_behind}
use Rattle.chunks.specs.Chunks.{alone}
use Rattle.chunks.specs.Splitting.{bare}

-- its slots are fillers already
bare_slots : (es : List BlockEquation) (x : ℕ) → all small_equation es ≡ true → length es < 1024 → sets (all_slots es) (length es * 8) (joined (map slots_of (bare x ∷ []))) ≡ all_slots es
bare_slots es x a h =
    put_slots_push es a (bare x) h (omega arith)
    ∙ ap (pad 8192 65535) (joined_push slots_of es (bare x))
    ∙ pad_filler 8192 65535 (joined (map slots_of es)) 8 (omega (arith, length_all_slots es a))

bare_same : (out : BlockSet) (bs : List Block) (x : ℕ) → out ≡ block_set bs → Small bs → length (all_equations bs) < 1024
    → sets out.slots (length (all_equations bs) * 8) (joined (map slots_of (bare x ∷ []))) ≡ out.slots
unfolding block_set
bare_same out bs x is s h = rw is (bare_slots (all_equations bs) x s.small h)

module _ (out : BlockSet) (x : ℕ) (r : Room out (alone (bare x) ∷ [])) (next last : ℕ)
    (at : next ≡ begin_at out.equation_ends out.blocks) (begin : last ≡ begin_at out.cell_ends out.blocks) where
  pub bare_next : next < 1024
  bare_next = omega (arith, at, equations_held out r.held, room_equations out (alone (bare x)) r)

  pub bare_last : last ≤ 1024
  bare_last = omega (arith, begin, cells_held out r.held, r.held.fits.few_cells)

  pub put_bare : record {
    cells = out.cells;
    cell_ends = set out.cell_ends out.blocks last;
    slots = out.slots;
    rests = set out.rests next x;
    equation_ends = set out.equation_ends out.blocks (next + 1);
    blocks = out.blocks + 1;
  }
      ≡ block_set (blocks_of out ++ (alone (bare x) ∷ []))
  put_bare =
      let same = bare_same out (blocks_of out) x r.held.is r.held.fits (omega (arith, room_equations out (alone (bare x)) r)) in
      let end : length (all_cells (blocks_of out)) + 0 ≡ length (all_cells (blocks_of out)) = omega arith in
      rw (at ∙ equations_held out r.held, begin ∙ cells_held out r.held) (rw (end, same) at (put_behind out (alone (bare x)) r))
