-- Blocks split anew fit where the blocks before fitted: neither cells nor equations become more, and each block has an equation, so that there are at most
-- as many blocks as equations. Rests on `chunks_cells_fewer` and `chunks_kept`. Assumes nothing.
use mathlib.Core.Path.{◌≡◌, refl, sym, ap, ◌∙◌}
use mathlib.Core.Logic.{◌⊎◌, inl, inr}
use mathlib.Core.Bool.{Bool, true, false, not}
use mathlib.Core.List.Memᴰ
use mathlib.Core.List.{List, [], ◌∷◌, map, Memᴰ}
use Prim.Native.Nat.{ℕ, ◌≤◌}
use native.Mathlib.Omega.{arith}
use lib.Dec.{ltb}
use lib.ListN.{length, length-append, length-reverse}
use borrow.Author.Tests.{eqb-true, eq-eqb}
use Rattle.lists.specs.Lists.{count, all, empty}
use Rattle.lists.proofs.Tests.{Decided, decided}
use Rattle.lists.proofs.Occurrences.{map_in}
use Rattle.lists.proofs.CountsAlike.{all_counts}
use Rattle.lists.proofs.Rearranged.{count_all}
use Rattle.lists.proofs.All.{all_reverse}
use Rattle.blocks.specs.Blocks.{BlockEquation, Block}
use Rattle.blocks.specs.BlockSets.{all_cells, all_equations, small_equation, Small}
use Rattle.chunks.specs.Chunks.{parts, alone, chunk_matrix, chunk_matrixes}
use Rattle.chunks.proofs.Parts.{turned, parts_are}
use Rattle.chunks.proofs.Contents.{without_cells, chunk_none, chunk_some, chunks_cons, chunks_nil, chunks_cells_fewer, chunks_kept}

pub chunk_has_equation : (b q : Block) → Memᴰ q (chunk_matrix b) → empty q.equations ≡ false
chunk_has_equation b q m = go (decided (empty b.cells))
  where
    go : Decided (empty b.cells) → empty q.equations ≡ false
    go (inl t) = absurd (Memᴰ.not-nil (rw (chunk_none b t) at m))
    go (inr t) = at (Memᴰ.append_cases (parts b (length b.cells) b.cells) (rw (chunk_some b t) at m))
      where
        at : Memᴰ q (parts b (length b.cells) b.cells) ⊎ Memᴰ q (map alone (without_cells b)) → empty q.equations ≡ false
        at (inl k) = let (c, h, w, u) = parts_are b (length b.cells) b.cells q k in rw w u
        at (inr k) = let (e, h, w) = map_in alone (without_cells b) k in rw w

many : (bs : List Block) → ((q : Block) → Memᴰ q bs → empty q.equations ≡ false) → length bs ≤ length (all_equations bs)
many [] h = omega arith
many (b ∷ bs) h = omega (arith, length-append b.equations (all_equations bs), some b.equations (h b (Memᴰ.head refl)), many bs (λ q m. h q (Memᴰ.tail m)))
  where
    some : (es : List BlockEquation) → empty es ≡ false → 1 ≤ length es
    some [] w = absurd (let z : ◌≡◌ {A = ℕ} 0 1 = cc in omega arith)
    some (e ∷ es) w = omega arith

chunks_have_equation : (bs : List Block) (q : Block) → Memᴰ q (chunk_matrixes bs) → empty q.equations ≡ false
chunks_have_equation [] q m = absurd (Memᴰ.not-nil (rw chunks_nil at m))
chunks_have_equation (b ∷ bs) q m = go (Memᴰ.append_cases (chunk_matrixes bs) (rw (chunks_cons b bs) at m)) (λ k. chunks_have_equation bs q k)
  where
    go : Memᴰ q (chunk_matrixes bs) ⊎ Memᴰ q (chunk_matrix b) → (Memᴰ q (chunk_matrixes bs) → empty q.equations ≡ false) → empty q.equations ≡ false
    go (inl k) ih = ih k
    go (inr k) ih = chunk_has_equation b q k

-- ---- what holds of all cells or all equations goes on to hold

chunks_fewer_equations : (g : BlockEquation → Bool) → ((e : BlockEquation) → g (turned e) ≡ g e) → (bs : List Block)
    → count g (all_equations (chunk_matrixes bs)) ≤ count g (all_equations bs)
chunks_fewer_equations g same bs = omega (arith, chunks_kept g same bs)

pub chunks_all_cells : (f : ℕ → Bool) (bs : List Block) → all f (all_cells bs) ≡ true → all f (all_cells (chunk_matrixes bs)) ≡ true
chunks_all_cells f bs h =
    let before : count (λ c. not (f c)) (all_cells bs) ≡ 0 = eqb-true (count (λ c. not (f c)) (all_cells bs)) 0 (sym (all_counts f (all_cells bs)) ∙ h) in
    all_counts f (all_cells (chunk_matrixes bs)) ∙ eq-eqb (count (λ c. not (f c)) (all_cells (chunk_matrixes bs))) 0 (omega (arith, chunks_cells_fewer (λ c. not (f c)) bs))

pub chunks_all_equations : (g : BlockEquation → Bool) → ((e : BlockEquation) → g (turned e) ≡ g e) → (bs : List Block)
    → all g (all_equations bs) ≡ true → all g (all_equations (chunk_matrixes bs)) ≡ true
chunks_all_equations g same bs h =
    let before : count (λ e. not (g e)) (all_equations bs) ≡ 0 = eqb-true (count (λ e. not (g e)) (all_equations bs)) 0 (sym (all_counts g (all_equations bs)) ∙ h) in
    all_counts g (all_equations (chunk_matrixes bs))
    ∙ eq-eqb (count (λ e. not (g e)) (all_equations (chunk_matrixes bs))) 0 (omega (arith, chunks_fewer_equations (λ e. not (g e)) (λ e. ap not (same e)) bs))

-- ---- what fits

pub small_turned : (e : BlockEquation) → small_equation (turned e) ≡ small_equation e
small_turned e = rw (length-reverse e.cells, all_reverse (λ c. ltb c 1024) e.cells)

pub chunk_small : (bs : List Block) → Small bs → Small (chunk_matrixes bs)
chunk_small bs s =
    let cells : length (all_cells (chunk_matrixes bs)) ≤ length (all_cells bs) =
    omega (arith, count_all (all_cells (chunk_matrixes bs)), count_all (all_cells bs), chunks_cells_fewer (λ _. true) bs) in
    let equations : length (all_equations (chunk_matrixes bs)) ≤ length (all_equations bs) =
    omega (arith, count_all (all_equations (chunk_matrixes bs)), count_all (all_equations bs), chunks_fewer_equations (λ _. true) (λ e. refl) bs) in
    record {
      few_cells = omega (arith, s.few_cells);
      few_equations = omega (arith, s.few_equations);
      few_blocks = omega (arith, s.few_equations, many (chunk_matrixes bs) (chunks_have_equation bs));
      on_board = chunks_all_cells (λ c. ltb c 1024) bs s.on_board;
      small = chunks_all_equations small_equation small_turned bs s.small;
    }
