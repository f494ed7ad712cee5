-- The blocks of a set by their places, as a loop over the set passes them: what stands at a place is the block there, so a loop over the places is one over
-- the blocks, forwards and backwards. Rests on the laws of where a block stands. Assumes nothing.
use mathlib.Core.Path.{◌≡◌, sym, ap, ◌∙◌}
use mathlib.Core.Bool.{Bool, true}
use mathlib.Core.List.{List, map, map-map, reverse}
use Prim.Native.Nat.{ℕ, ◌≤◌, ◌<◌}
use native.Mathlib.Omega.{arith}
use lib.ListN.{length, get_or}
use Rattle.lists.specs.Lists.{range, any, all, nodup, joined, pad}
use Rattle.lists.proofs.Members.{range_in}
use Rattle.lists.proofs.All.{all_at}
use Rattle.lists.proofs.Arrays.{pad_read}
use Rattle.lists.proofs.Kept.{any_ext}
use Rattle.lists.proofs.Occurrences.{has_reverse}
use Rattle.lists.proofs.Backwards.{reverse_map}
use Rattle.lists.proofs.Joined.{read_all, map_ext, part_within}
use Rattle.blocks.specs.Blocks.{BlockEquation, Block}
use Rattle.blocks.specs.BlockSets.{all_equations, block_set, slot_cells, begin_at, blocks_of, Whole}
use Rattle.blocks.specs.Places.{cells_from, equations_from, block_from}
use Rattle.blocks.specs.declared.BlockSet.{BlockSet}
use Rattle.blocks.proofs.Ends.{ends_of, end_of}
use Rattle.blocks.proofs.Reading.{no_equation, no_block, equation_read}
use Rattle.blocks.proofs.Behind.{blocks_held, blocks_few}
use Rattle.blocks.proofs.Standing.{block_in, arrays_in}
use Rattle.marks.specs.Marked.{Parts}
use Rattle.subtraction.specs.Pairs.{Once}
use Rattle.lists.proofs.PassingElements.{any_map}

module _ (s : BlockSet) (w : Whole s) where
  abbrev bs : List Block
  bs = blocks_of s

  -- the block at a place
  abbrev at : ℕ → Block
  at b = get_or bs b no_block

  -- a place of a block
  inside : (b : ℕ) → b < s.blocks → b < length bs
  inside b h = omega (arith, blocks_held s w)

  -- ---- a loop over the places

  places : map at (range 0 s.blocks) ≡ bs
  places = ap (λ (n : ℕ). map at (range 0 n)) (blocks_held s w) ∙ read_all bs no_block

  -- some place passes where some block does
  pub any_places : (f : Block → Bool) (g : ℕ → Bool) → ((b : ℕ) → b < s.blocks → g b ≡ f (at b)) → any g (range 0 s.blocks) ≡ any f bs
  any_places f g same =
      any_ext g (λ b. f (at b)) (range 0 s.blocks) (λ b h. same b (omega (arith, range_in 0 s.blocks b h)))
      ∙ sym (any_map f at (range 0 s.blocks))
      ∙ ap (any f) places

  -- what the places give, from the last to the first, is what the blocks give
  pub joined_back : (f : Block → List ℕ) (g : ℕ → List ℕ) → ((b : ℕ) → b < s.blocks → g b ≡ f (at b))
      → joined (map g (reverse (range 0 s.blocks))) ≡ joined (map f (reverse bs))
  joined_back f g same =
      ap joined
      (map_ext g (λ b. f (at b)) (reverse (range 0 s.blocks)) (λ b h. same b (omega (arith, range_in 0 s.blocks b (sym (has_reverse (range 0 s.blocks) b) ∙ h))))
      ∙ sym (map-map f at (reverse (range 0 s.blocks)))
      ∙ ap (map f) (sym (reverse_map at (range 0 s.blocks)) ∙ ap reverse places))

  -- ---- what stands at a place

  module _ (b : ℕ) (h : b < s.blocks) where
    pub cells_at : cells_from s.cells (begin_at s.cell_ends b) (get_or s.cell_ends b 0) ≡ (at b).cells
    unfolding block_from
    cells_at = ap (λ (q : Block). q.cells) (block_in s w b (inside b h))

    pub equations_at : equations_from s.slots s.rests (begin_at s.equation_ends b) (get_or s.equation_ends b 0) ≡ (at b).equations
    unfolding block_from
    equations_at = ap (λ (q : Block). q.equations) (block_in s w b (inside b h))

    -- its equations end among all equations
    end_within : get_or s.equation_ends b 0 ≤ length (all_equations bs)
    unfolding block_set
    end_within =
        let f : Block → List BlockEquation = λ q. q.equations in
        let is : get_or s.equation_ends b 0 ≡ get_or (pad 1024 0 (ends_of f bs)) b 0 = ap (λ (x : BlockSet). get_or x.equation_ends b 0) w.is in
        omega (arith, pad_read 1024 0 (ends_of f bs) b, end_of f bs b no_block (inside b h), part_within f bs b no_block (inside b h))

  -- the cells, by their ends
  pub parts : Parts s.cells s.cell_ends s.blocks
  parts = record { few = blocks_few s w; in_cells = λ b h. (arrays_in s w b (inside b h)).in_cells }

  -- no cell stands twice in the slots of an equation, if none does in an equation
  pub slots_once : all (λ (e : BlockEquation). nodup e.cells) (all_equations bs) ≡ true → (b : ℕ) → b < s.blocks → Once s.slots (get_or s.equation_ends b 0)
  slots_once once b h = record {
    at = λ e k.
        let u : e < length (all_equations bs) = omega (arith, end_within b h) in
        ap (λ (x : BlockSet). nodup (slot_cells x.slots e)) w.is
        ∙ ap (λ (x : BlockEquation). nodup x.cells) (equation_read bs w.fits.small e u)
        ∙ all_at (λ (x : BlockEquation). nodup x.cells) (all_equations bs) e no_equation once u;
  }
