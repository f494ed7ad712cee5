-- What is left of blocks by the marks of the two sweeps is what the direct rule leaves. An equation of the first sweep has all its cells among the mines,
-- so without them no mine is left, and the test that drops equations after the second sweep drops it too: every equation may be asked once, at the end.
-- Rests on the laws of all blocks at once. Assumes nothing.
use mathlib.Core.Path.{◌≡◌, sym, ap, ◌∙◌}
use mathlib.Core.Logic.{inl, inr}
use mathlib.Core.Bool.{Bool, true, false, not, ◌&&◌, ◌||◌}
use mathlib.Core.List.Memᴰ
use mathlib.Core.List.{List, [], ◌∷◌, map, map-map, Memᴰ}
use Prim.Native.Nat.{ℕ, ◌+◌, ◌-◌, ◌<◌}
use native.Mathlib.Omega.{arith}
use lib.Dec.{eqb, ltb}
use lib.ListN.{length, get_or}
use borrow.Author.Tests.{eqb-true, eq-eqb, ltb-true}
use Rattle.lists.specs.Lists.{bit, keep, count, all, has, joined}
use Rattle.lists.proofs.Tests.{Decided, decided, bit_is_zero, not_or}
use Rattle.lists.proofs.Counts.{count_ext}
use Rattle.lists.proofs.Rearranged.{count_all}
use Rattle.lists.proofs.All.{all_has}
use Rattle.lists.proofs.Kept.{keep_both, keep_map, keep_ext}
use Rattle.lists.proofs.Unions.{mem_joined, mem_has, has_mem}
use Rattle.lists.proofs.Occurrences.{keep_agree}
use Rattle.lists.proofs.TurnedRound.{map_agree, joined_each_one}
use Rattle.blocks.specs.Blocks.{BlockEquation, Block}
use Rattle.blocks.specs.BlockSets.{all_cells, all_equations}
use Rattle.blocks.specs.Places.{marked, Marks}
use Rattle.blocks.proofs.MarkLaws.{marks_has}
use Rattle.marks.specs.Marked.{Ready, left_equation, stays, left_equations, left_block, left_blocks}
use Rattle.direct.specs.Found.{less_mines, less_safe}
use Rattle.direct.specs.Direct.{full, clear, sure_mines, sure_safe, after_safe, direct_left}
use Rattle.direct.proofs.DirectLaws.{not_full, not_clear, equation_cells_of}
use Rattle.direct.proofs.AllBlocks.{ready_inside, own_mine, own_safe}

-- ---- equations

module _ (es : List BlockEquation) where
  -- an equation without the mines and the safe cells of both sweeps
  abbrev after_both : BlockEquation → BlockEquation
  after_both e = less_safe (sure_safe es) (less_mines (sure_mines es) e)

  -- one of the first sweep has no mine left without them
  full_then_clear : (e : BlockEquation) → Memᴰ e es → full e ≡ true → clear (less_mines (sure_mines es) e) ≡ true
  unfolding sure_mines
  full_then_clear e m h =
      let w = eqb-true e.rest (length e.cells + 8) h in
      let known : count (has (sure_mines es)) e.cells ≡ length e.cells =
      count_ext (has (sure_mines es)) (λ _. true) e.cells (λ c k. equation_cells_of full es c e m h k) ∙ count_all e.cells in
      eq-eqb (e.rest - count (has (sure_mines es)) e.cells) 8 (omega arith)

  -- so the equations after both sweeps are those of all that have a mine left, or too many known
  after_safe_asked_of_all : after_safe es ≡ keep (stays false) (map after_both es)
  after_safe_asked_of_all =
      let ms = sure_mines es in
      let ss = sure_safe es in
      let some : BlockEquation → Bool = λ e. not_clear (less_mines ms e) in
      ap (map (less_safe ss)) (keep_map (less_mines ms) not_clear (keep not_full es))
      ∙ map-map (less_safe ss) (less_mines ms) (keep some (keep not_full es))
      ∙ ap (map after_both) (keep_both some not_full es ∙ keep_agree (λ e. not_full e && some e) some es (λ e m. agree e m (decided (full e))))
      ∙ sym (keep_map after_both (stays false) es)
    where
      agree : (e : BlockEquation) → Memᴰ e es → Decided (full e) → (not_full e && not_clear (less_mines (sure_mines es) e)) ≡ not_clear (less_mines (sure_mines es) e)
      agree e m (inl h) = rw (h, full_then_clear e m h)
      agree e m (inr h) = rw h

-- ---- a block by its marks

-- the marks tell the mines and the safe cells of a block
record Told (mines known : List ℕ) (b : Block) : Type 0 where
  mine : (c : ℕ) → has b.cells c ≡ true → marked mines c ≡ has (sure_mines b.equations) c
  unknown : (c : ℕ) → has b.cells c ≡ true → eqb (get_or known c 0) 0 ≡ not (has (sure_mines b.equations) c || has (sure_safe b.equations) c)

module _ (mines known : List ℕ) (b : Block) (told : Told mines known b) where
  -- then they leave of an equation what both sweeps leave
  left_after_both : (e : BlockEquation) → ((c : ℕ) → has e.cells c ≡ true → has b.cells c ≡ true) → left_equation mines known e ≡ after_both b.equations e
  left_after_both e inside = rw (cells, count_ext (marked mines) (has ms) e.cells (λ c h. told.mine c (inside c h)))
    where
      ms : List ℕ
      ms = sure_mines b.equations

      ss : List ℕ
      ss = sure_safe b.equations

      cells : keep (λ c. eqb (get_or known c 0) 0) e.cells ≡ keep (λ c. not (has ss c)) (keep (λ c. not (has ms c)) e.cells)
      cells =
          keep_ext (λ c. eqb (get_or known c 0) 0) (λ c. not (has ms c) && not (has ss c)) e.cells
          (λ c h. told.unknown c (inside c h) ∙ not_or (has ms c) (has ss c))
          ∙ sym (keep_both (λ c. not (has ss c)) (λ c. not (has ms c)) e.cells)

  -- and of the block what the direct rule leaves
  left_direct : ((e : BlockEquation) → Memᴰ e b.equations → (c : ℕ) → has e.cells c ≡ true → has b.cells c ≡ true)
      → left_block false mines known b ≡ direct_left b ∷ []
  unfolding left_block left_equations direct_left
  left_direct inside = rw (cells, equations)
    where
      cells : keep (λ c. eqb (get_or known c 0) 0) b.cells ≡ keep (λ c. not (has (sure_mines b.equations) c || has (sure_safe b.equations) c)) b.cells
      cells =
          keep_ext (λ c. eqb (get_or known c 0) 0) (λ c. not (has (sure_mines b.equations) c || has (sure_safe b.equations) c)) b.cells told.unknown

      equations : keep (stays false) (map (left_equation mines known) b.equations) ≡ after_safe b.equations
      equations =
          ap (keep (stays false)) (map_agree (left_equation mines known) (after_both b.equations) b.equations (λ e m. left_after_both e (inside e m)))
          ∙ sym (after_safe_asked_of_all b.equations)

-- ---- all blocks

module _ (bs : List Block) (ready : Ready bs) (below : all (λ c. ltb c 1024) (all_cells bs) ≡ true) (mines safe known : List ℕ)
    (mines_marked : Marks mines (sure_mines (all_equations bs))) (safe_marked : Marks safe (sure_safe (all_equations bs)))
    (both : (d : ℕ) → d < 1024 → get_or known d 0 ≡ bit (marked mines d || marked safe d)) where
  told_of_all : (b : Block) → Memᴰ b bs → Told mines known b
  told_of_all b m = record { mine = mine; unknown = unknown }
    where
      mine : (c : ℕ) → has b.cells c ≡ true → marked mines c ≡ has (sure_mines b.equations) c
      mine c h = marks_has mines_marked c ∙ own_mine bs ready b m c h

      unknown : (c : ℕ) → has b.cells c ≡ true → eqb (get_or known c 0) 0 ≡ not (has (sure_mines b.equations) c || has (sure_safe b.equations) c)
      unknown c h =
          let there : has (all_cells bs) c ≡ true = mem_has (all_cells bs) (mem_joined (has_mem b.cells c h) (Memᴰ.map (λ (x : Block). x.cells) m)) in
          ap (λ (n : ℕ). eqb n 0) (both c (ltb-true c 1024 (all_has (λ x. ltb x 1024) (all_cells bs) below c there)))
          ∙ bit_is_zero (marked mines c || marked safe c)
          ∙ rw (mine c h, marks_has safe_marked c ∙ own_safe bs ready b m c h)

  -- where mines and safe cells are marked, and known cells are both, what is left by the marks is what the direct rule leaves
  pub left_of_all : left_blocks false mines known bs ≡ map direct_left bs
  unfolding left_blocks
  left_of_all =
      ap joined
      (map_agree (left_block false mines known) (λ (b : Block). direct_left b ∷ []) bs
      (λ b m. left_direct mines known b (told_of_all b m) (ready_inside bs ready b m)))
      ∙ joined_each_one direct_left bs
