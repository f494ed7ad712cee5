-- One block split, and the blocks of a set split one after another from the last. What is put behind the set so far is the next block's chunks. Rests on
-- the laws of blocks put one after another and on `chunk_small`. Assumes nothing.
use mathlib.Core.Path.{◌≡◌, refl, sym, ap, ◌∙◌}
use mathlib.Core.Bool.{true}
use mathlib.Core.List.{List, [], ◌∷◌, ◌++◌, map, append-nil, reverse-append}
use Prim.Native.Nat.{ℕ, suc, ◌-◌, ◌≤◌, ◌<◌}
use native.Mathlib.Omega.{arith}
use lib.ListN.{length, get_or, take}
use lib.Seq.{take-suc, take-length}
use Rattle.lists.specs.Lists.{empty, joined}
use Rattle.blocks.specs.Blocks.{Block}
use Rattle.blocks.specs.BlockSets.{block_set, blocks_of, Small, Whole}
use Rattle.blocks.specs.Places.{Room, bounds_at, cells_from, block_from}
use Rattle.blocks.specs.declared.BlockSet.{BlockSet}
use Rattle.blocks.specs.declared.Bounds.{Bounds}
use Rattle.blocks.proofs.Reading.{no_block, blocks_of_set}
use Rattle.blocks.proofs.Between.{cells_more, cells_none}
use Rattle.blocks.proofs.Behind.{small_first, set_whole, blocks_held, Growing, growing_start, growing_room, growing_next, growing_end}
use Rattle.blocks.proofs.Standing.{block_in}
use Rattle.chunks.specs.Chunks.{chunk_matrix, chunk_matrixes}
use Rattle.chunks.specs.Splitting.{all_parts}
use Rattle.chunks.proofs.Contents.{chunk_none, chunk_some, chunks_nil}
use Rattle.chunks.proofs.Sizes.{chunk_small}
use Rattle.chunks.proofs.Remaining.{bare_from}

-- ---- one block, split

module _ (cells slots rests : List ℕ) (bounds : Bounds) where
  -- no cells: nothing
  pub split_nothing : (out : BlockSet) → bounds.first_cell ≡ bounds.end_cell → Whole out → out ≡ block_set (blocks_of out ++ chunk_matrix (block_from cells slots rests bounds))
  unfolding block_from
  split_nothing out e h =
      let none : empty (cells_from cells bounds.first_cell bounds.end_cell) ≡ true = ap empty (cells_none cells bounds.first_cell bounds.end_cell (omega arith)) in
      h.is ∙ ap block_set (sym (ap (λ (l : List Block). blocks_of out ++ l) (chunk_none (block_from cells slots rests bounds) none) ∙ append-nil (blocks_of out)))

  module _ (first : bounds.first_cell ≤ bounds.end_cell) (some : bounds.first_cell ≡ bounds.end_cell → ⊥) where
    -- the parts, then the equations without cells
    order : chunk_matrix (block_from cells slots rests bounds)
        ≡ all_parts (block_from cells slots rests bounds) ++ bare_from slots rests bounds.first_equation bounds.end_equation
    unfolding block_from all_parts
    order =
        chunk_some (block_from cells slots rests bounds) (ap empty (cells_more cells bounds.first_cell bounds.end_cell (less bounds.first_cell bounds.end_cell first some)))
      where
        less : (m n : ℕ) → m ≤ n → (m ≡ n → ⊥) → m < n
        less m n h f = omega arith

    module _ (out : BlockSet) (room : Room out (chunk_matrix (block_from cells slots rests bounds))) where
      start : Growing (blocks_of out ++ chunk_matrix (block_from cells slots rests bounds)) out (chunk_matrix (block_from cells slots rests bounds))
      start = growing_start room

      pub split_parts : Room out (all_parts (block_from cells slots rests bounds))
      split_parts = growing_room start room.fits _ _ order

      module _ (t : BlockSet) (is : t ≡ block_set (blocks_of out ++ all_parts (block_from cells slots rests bounds))) where
        then : Growing (blocks_of out ++ chunk_matrix (block_from cells slots rests bounds)) t (bare_from slots rests bounds.first_equation bounds.end_equation)
        then = growing_next start room.fits _ _ order t is

        pub split_bare : Room t (bare_from slots rests bounds.first_equation bounds.end_equation)
        split_bare = growing_room then room.fits _ [] (sym (append-nil (bare_from slots rests bounds.first_equation bounds.end_equation)))

        pub split_all : (r : BlockSet) → r ≡ block_set (blocks_of t ++ bare_from slots rests bounds.first_equation bounds.end_equation)
            → r ≡ block_set (blocks_of out ++ chunk_matrix (block_from cells slots rests bounds))
        split_all r w =
            growing_end (growing_next then room.fits _ [] (sym (append-nil (bare_from slots rests bounds.first_equation bounds.end_equation))) r w) refl

-- ---- blocks from the last to the first

-- the last block is split first
pub chunks_last : (bs : List Block) (b : Block) → chunk_matrixes (bs ++ (b ∷ [])) ≡ chunk_matrix b ++ chunk_matrixes bs
unfolding chunk_matrixes
chunks_last bs b = ap (λ (l : List Block). joined (map chunk_matrix l)) (reverse-append bs (b ∷ []))

pub chunks_before : (bs : List Block) (k : ℕ) → 0 < k → k ≤ length bs → chunk_matrixes (take k bs) ≡ chunk_matrix (get_or bs (k - 1) no_block) ++ chunk_matrixes (take (k - 1) bs)
chunks_before bs k h u =
    let n : k ≡ suc (k - 1) = omega arith in
    ap (λ (i : ℕ). chunk_matrixes (take i bs)) n
    ∙ ap chunk_matrixes (take-suc bs (k - 1) no_block (omega arith))
    ∙ chunks_last (take (k - 1) bs) (get_or bs (k - 1) no_block)

module _ (s : BlockSet) (w : Whole s) where
  pub chunks_fit : Small (chunk_matrixes (blocks_of s))
  chunks_fit = chunk_small (blocks_of s) w.fits

  pub chunks_start : (out : BlockSet) → out ≡ block_set [] → Growing (chunk_matrixes (blocks_of s)) out (chunk_matrixes (take s.blocks (blocks_of s)))
  chunks_start out is =
      let none = small_first [] (chunk_matrixes (blocks_of s)) chunks_fit in
      let whole : take s.blocks (blocks_of s) ≡ blocks_of s = ap (λ (n : ℕ). take n (blocks_of s)) (blocks_held s w) ∙ take-length (blocks_of s) in
      record {
        held = set_whole [] out is none;
        left = ap (λ (l : List Block). l ++ chunk_matrixes (take s.blocks (blocks_of s))) (ap blocks_of is ∙ blocks_of_set [] none) ∙ ap chunk_matrixes whole;
      }

  module _ (out : BlockSet) (b : ℕ) (g : Growing (chunk_matrixes (blocks_of s)) out (chunk_matrixes (take b (blocks_of s)))) where
    module _ (more : 0 < b) (few : b ≤ length (blocks_of s)) where
      next : chunk_matrixes (take b (blocks_of s))
          ≡ chunk_matrix (block_from s.cells s.slots s.rests (bounds_at s.cell_ends s.equation_ends (b - 1))) ++ chunk_matrixes (take (b - 1) (blocks_of s))
      next =
          chunks_before (blocks_of s) b more few
          ∙ ap (λ (q : Block). chunk_matrix q ++ chunk_matrixes (take (b - 1) (blocks_of s))) (sym (block_in s w (b - 1) (omega arith)))

      pub chunks_room : Room out (chunk_matrix (block_from s.cells s.slots s.rests (bounds_at s.cell_ends s.equation_ends (b - 1))))
      chunks_room = growing_room g chunks_fit _ _ next

      pub chunks_next : (after : BlockSet)
          → after ≡ block_set (blocks_of out ++ chunk_matrix (block_from s.cells s.slots s.rests (bounds_at s.cell_ends s.equation_ends (b - 1))))
          → Growing (chunk_matrixes (blocks_of s)) after (chunk_matrixes (take (b - 1) (blocks_of s)))
      chunks_next after is = growing_next g chunks_fit _ _ next after is

    pub chunks_end : b ≤ 0 → (out ≡ block_set (chunk_matrixes (blocks_of s))) × Whole out
    chunks_end h =
        let none : b ≡ 0 = omega arith in
        let is = growing_end g (ap (λ (n : ℕ). chunk_matrixes (take n (blocks_of s))) none ∙ chunks_nil) in
        (is, set_whole (chunk_matrixes (blocks_of s)) out is chunks_fit)
