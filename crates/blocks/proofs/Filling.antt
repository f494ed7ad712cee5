-- One block more in the struct: each of its arrays gets the block's part behind what it holds. Cells and remainders are pushed one by one (`pad_push`
-- of lists), slots eight at a time (`put_slots_push`), and an end once the block is there. Assumes nothing.
use mathlib.Core.Path.{◌≡◌, refl, sym, ap, ◌∙◌}
use mathlib.Core.List.{List, [], ◌∷◌, ◌++◌, map, map-append}
use Prim.Native.Nat.{ℕ, ◌+◌, ◌<◌}
use native.Mathlib.Omega.{arith}
use lib.ListN.{length, set, length-append}
use Rattle.lists.specs.Lists.{joined, pad}
use Rattle.lists.proofs.Arrays.{pad_push}
use Rattle.lists.proofs.Joined.{joined_push}
use Rattle.blocks.specs.Blocks.{BlockEquation, Block}
use Rattle.blocks.specs.BlockSets.{all_cells, all_equations, ends_from, block_set}
use Rattle.blocks.proofs.Slots.{all_slots}
use Rattle.blocks.proofs.Ends.{ends_of, ends_push}

pub cells_push : (bs : List Block) (b : Block) → all_cells (bs ++ (b ∷ [])) ≡ all_cells bs ++ b.cells
cells_push bs b = joined_push (λ (x : Block). x.cells) bs b

pub equations_push : (bs : List Block) (b : Block) → all_equations (bs ++ (b ∷ [])) ≡ all_equations bs ++ b.equations
equations_push bs b = joined_push (λ (x : Block). x.equations) bs b

pub rests_push : (es : List BlockEquation) (e : BlockEquation)
    → map (λ (x : BlockEquation). x.rest) (es ++ (e ∷ [])) ≡ map (λ (x : BlockEquation). x.rest) es ++ (e.rest ∷ [])
rests_push es e = map-append (λ (x : BlockEquation). x.rest) es (e ∷ [])

module _ {A B : Type 0} (f : B → List A) where
  length_ends : (n : ℕ) (bs : List B) → length (ends_from n (map (λ (b : B). length (f b)) bs)) ≡ length bs
  length_ends n [] = refl
  length_ends n (b ∷ bs) = rw (length_ends (n + length (f b)) bs)

  -- the end of a block is stored
  pub put_end : (bs : List B) (b : B) → length bs < 1024
      → set (pad 1024 0 (ends_of f bs)) (length bs) (length (joined (map f bs)) + length (f b)) ≡ pad 1024 0 (ends_of f (bs ++ (b ∷ [])))
  put_end bs b h =
      let n = length (joined (map f bs)) + length (f b) in
      ap (λ (i : ℕ). set (pad 1024 0 (ends_of f bs)) i n) (sym (length_ends 0 bs))
      ∙ pad_push 1024 0 (ends_of f bs) n (omega (arith, length_ends 0 bs))
      ∙ ap (pad 1024 0) (sym (ends_push f bs b))

-- the struct, once the arrays hold the block's cells and equations and its two ends are stored
pub block_push : (bs : List Block) (b : Block) → length bs < 1024
    → record {
      cells = pad 1024 0 (all_cells bs ++ b.cells);
      cell_ends = set (pad 1024 0 (ends_of (λ (x : Block). x.cells) bs)) (length bs) (length (all_cells bs) + length b.cells);
      slots = all_slots (all_equations bs ++ b.equations);
      rests = pad 1024 0 (map (λ (e : BlockEquation). e.rest) (all_equations bs ++ b.equations));
      equation_ends = set (pad 1024 0 (ends_of (λ (x : Block). x.equations) bs)) (length bs) (length (all_equations bs) + length b.equations);
      blocks = length bs + 1;
    }
    ≡ block_set (bs ++ (b ∷ []))
unfolding block_set
block_push bs b h =
    rw (cells_push bs b, equations_push bs b, put_end (λ (x : Block). x.cells) bs b h, put_end (λ (x : Block). x.equations) bs b h, length-append bs (b ∷ []))
