-- What the code writes of a block is the block of its sources: the cells that it adds are the block's, each equation's cells in the order of their places
-- are the block's cells that stand beside the source, in the block's order, and the remainders are those of the equations. The slots of each source hold
-- its closed neighbours. Rests on the laws of places and of order. Assumes nothing.
use mathlib.Core.Path.{◌≡◌, sym, ap, ◌∙◌}
use mathlib.Core.Bool.{true}
use mathlib.Core.List.{List, [], ◌++◌, map, map-map}
use Prim.Native.Nat.{ℕ, ◌+◌}
use native.Mathlib.Omega.{arith}
use lib.ListN.{length, take, drop, length-append, take-append-drop}
use lib.Seq.{take-take, length-take-le}
use Rattle.lists.specs.Lists.{has, nodup, add_new, joined, pad}
use Rattle.lists.proofs.Members.{nodup_keep}
use Rattle.lists.proofs.Joined.{map_ext}
use Rattle.fitting.specs.Equations.{is_closed}
use Rattle.blocks.specs.Blocks.{BlockEquation}
use Rattle.blocks.specs.BlockSets.{slots_of, slot_cells}
use Rattle.sources.specs.Sources.{closed_beside}
use Rattle.sources.specs.Equations.{rest_at}
use Rattle.filling.specs.Places.{Placed, insert_all}
use Rattle.filling.proofs.Order.{inserted_in_order}
use Rattle.filling.proofs.Placing.{placed_long, placed_follow}
use Rattle.filling.proofs.SortedSlots.{slots_in_order}
use Rattle.frontier.specs.Frontier.{equation_of, cells_met, block_of}
use Rattle.frontier.proofs.BlockLaws.{block_cells, block_equations, source_block_cell}

-- ---- the cells, in an array with what was there before

module _ {start k : ℕ} {places cells : List ℕ} (placed : Placed start k places cells) where
  cells_parted : take k cells ≡ take start cells ++ drop start (take k cells)
  cells_parted = sym (take-append-drop start (take k cells)) ∙ rw (take-take start k cells placed.begins)

  -- the array has the cells before, and the block's
  pub cells_joined : (before block : List ℕ) → take start cells ≡ before → drop start (take k cells) ≡ block → cells ≡ pad 1024 0 (before ++ block)
  cells_joined before block a b =
      let parts : take k cells ≡ before ++ block = cells_parted ∙ rw (a, b) in
      placed.filled ∙ ap (pad 1024 0) parts

  -- and ends as many places further
  pub cells_end : (block : List ℕ) → drop start (take k cells) ≡ block → k ≡ start + length block
  cells_end block b =
      omega (
        arith,
        placed.few,
        placed.begins,
        length-take-le k cells (omega (arith, placed_long placed, placed.few)),
        length-take-le start cells (omega (arith, placed_long placed, placed.few, placed.begins)),
        ap length cells_parted,
        length-append (take start cells) (drop start (take k cells)),
        ap length b,
      )

-- ---- the block of some sources

module _ (near : ℕ → List ℕ) (p beside cs : List ℕ) (held : (c : ℕ) → has cs c ≡ true → slot_cells beside c ≡ closed_beside near p c) where
  pub cells_written : add_new [] (joined (map (slot_cells beside) cs)) ≡ (block_of near p cs).cells
  cells_written = ap (λ (ls : List (List ℕ)). add_new [] (joined ls)) (map_ext (slot_cells beside) (closed_beside near p) cs held) ∙ sym (block_cells near p cs)

  module _ (once : (c : ℕ) → nodup (near c) ≡ true) {start k : ℕ} {places cells : List ℕ} (placed : Placed start k places cells)
      (added : drop start (take k cells) ≡ (block_of near p cs).cells) where
    -- the cells beside a source, in the order of their places, are those of its equation
    in_order : (c : ℕ) → has cs c ≡ true → insert_all places [] (slot_cells beside c) ≡ (equation_of near p (cells_met near p cs) c).cells
    in_order c h =
        ap (insert_all places []) (held c h)
        ∙ inserted_in_order places start (drop start (take k cells)) (closed_beside near p c) (placed_follow placed) (nodup_keep (is_closed p) (near c) (once c))
        (λ x e. rw added (source_block_cell near p cs c x h e))
        ∙ rw (added, block_cells near p cs)

    pub slots_written : joined (map (slots_in_order places beside) cs) ≡ joined (map slots_of (block_of near p cs).equations)
    slots_written =
        ap joined
        (map_ext (slots_in_order places beside) (λ c. slots_of (equation_of near p (cells_met near p cs) c)) cs (λ c h. ap (pad 8 65535) (in_order c h))
        ∙ sym (map-map slots_of (equation_of near p (cells_met near p cs)) cs)
        ∙ ap (map slots_of) (sym (block_equations near p cs)))

  pub rests_written : map (rest_at near p) cs ≡ map (λ (e : BlockEquation). e.rest) (block_of near p cs).equations
  rests_written =
      sym (map-map (λ (e : BlockEquation). e.rest) (equation_of near p (cells_met near p cs)) cs)
      ∙ ap (map (λ (e : BlockEquation). e.rest)) (sym (block_equations near p cs))
