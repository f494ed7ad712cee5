-- What the blocks split anew have of a block, and what is dropped. Of the cells those that some equation has, each as often as before. Of the equations those
-- with cells, turned round, and those without, each as often as before; but all of a block without cells, and those whose cells are connected with
-- none of the block's, of which there are none where equations have cells of their block only (`inside`). Rests on `parts_cells`, `parts_equations`. Assumes nothing.
use mathlib.Core.Path.{◌≡◌, refl, sym, ap, ◌∙◌}
use mathlib.Core.Logic.{inl, inr}
use mathlib.Core.Bool.{Bool, true, false, not, cond, ◌&&◌, ◌||◌}
use mathlib.Core.List.{List, [], ◌∷◌, ◌++◌, map, append-nil, reverse, reverse-cons, Memᴰ}
use Prim.Native.Nat.{ℕ, ◌+◌, ◌≤◌}
use native.Mathlib.Omega.{arith}
use lib.Dec.{eqb}
use lib.ListN.{length}
use Rattle.lists.specs.Lists.{bit, keep, count, all, empty, joined, has, nodup, meets}
use Rattle.lists.proofs.Tests.{Decided, decided}
use Rattle.lists.proofs.Members.{has_head}
use Rattle.lists.proofs.Counts.{any_of, count_append, count_kept}
use Rattle.lists.proofs.Joined.{joined_push}
use Rattle.lists.proofs.Occurrences.{empty_nil, all_in}
use Rattle.lists.proofs.CountsAlike.{counts_sum_lem, counts_ext, counts_map}
use Rattle.lists.proofs.Rearranged.{nodup_count, count_nodup}
use Rattle.lists.proofs.Sharing.{apart_meets, all_within}
use Rattle.blocks.specs.Blocks.{BlockEquation, Block}
use Rattle.blocks.specs.BlockSets.{all_cells, all_equations}
use Rattle.chunks.specs.Chunks.{parts, alone, chunk_matrix, chunk_matrixes}
use Rattle.chunks.proofs.Connected.{in_equation, connected_adds, connected_stays, widened_none}
use Rattle.blocks.proofs.Behind.{cells_append, equations_append}
use Rattle.chunks.proofs.Parts.{turned, reach, parts_cells, parts_equations}

-- ---- words

-- equations have cells of their block only
abbrev pub inside : Block → Bool
inside b = all (λ (e : BlockEquation). all (has b.cells) e.cells) b.equations

-- the equation's cells are connected with a cell of the block
abbrev pub reached : Block → BlockEquation → Bool
reached b e = meets (reach b e.cells) b.cells

-- the cells that are left: those that some equation has
abbrev pub used_cells : Block → List ℕ
used_cells b = keep (in_equation b.equations) b.cells

-- the equations without cells
abbrev pub without_cells : Block → List BlockEquation
without_cells b = keep (λ (e : BlockEquation). empty e.cells) b.equations

-- the equations that are dropped
abbrev pub dropped : Block → List BlockEquation
dropped b = cond (empty b.cells) b.equations (keep (λ (e : BlockEquation). not (reached b e || empty e.cells)) b.equations)

abbrev pub all_dropped : List Block → List BlockEquation
all_dropped bs = joined (map dropped bs)

-- ---- equations without cells

pub alone_cells : (es : List BlockEquation) → all_cells (map alone es) ≡ []
alone_cells [] = refl
alone_cells (e ∷ es) = alone_cells es

pub alone_equations : (es : List BlockEquation) → all_equations (map alone es) ≡ es
alone_equations [] = refl
alone_equations (e ∷ es) = ap (λ (l : List BlockEquation). e ∷ l) (alone_equations es)

-- ---- one block

pub chunk_none : (b : Block) → empty b.cells ≡ true → chunk_matrix b ≡ []
unfolding chunk_matrix
chunk_none b t = rw t

pub chunk_some : (b : Block) → empty b.cells ≡ false
    → chunk_matrix b ≡ parts b (length b.cells) b.cells ++ map alone (without_cells b)
unfolding chunk_matrix
chunk_some b t = rw t

pub chunk_cells : (b : Block) (f : ℕ → Bool) → count f (all_cells (chunk_matrix b)) ≡ count f (used_cells b)
chunk_cells b f = go (decided (empty b.cells))
  where
    go : Decided (empty b.cells) → count f (all_cells (chunk_matrix b)) ≡ count f (used_cells b)
    go (inl t) = rw (chunk_none b t) (ap (λ (l : List ℕ). count f (keep (in_equation b.equations) l)) (sym (empty_nil b.cells t)))
    go (inr t) =
        ap (λ (l : List Block). count f (all_cells l)) (chunk_some b t)
        ∙ ap (count f) (cells_append (parts b (length b.cells) b.cells) (map alone (without_cells b)) ∙ ap (λ (l : List ℕ). all_cells (parts b (length b.cells) b.cells) ++ l) (alone_cells (without_cells b)))
        ∙ ap (count f) (append-nil (all_cells (parts b (length b.cells) b.cells)))
        ∙ parts_cells b f (length b.cells) b.cells (omega arith) (λ c h. refl)
        ∙ sym (count_kept f (in_equation b.equations) b.cells)

pub chunk_equations : (b : Block) → empty b.cells ≡ false → (g : BlockEquation → Bool)
    → count g (all_equations (chunk_matrix b))
    ≡ count (λ (e : BlockEquation). reached b e && g (turned e)) b.equations + count (λ (e : BlockEquation). empty e.cells && g e) b.equations
chunk_equations b t g =
    ap (λ (l : List Block). count g (all_equations l)) (chunk_some b t)
    ∙ omega (
      arith,
      ap (count g) (equations_append (parts b (length b.cells) b.cells) (map alone (without_cells b))),
      count_append g (all_equations (parts b (length b.cells) b.cells)) (all_equations (map alone (without_cells b))),
      parts_equations b g (length b.cells) b.cells (omega arith),
      ap (count g) (alone_equations (without_cells b)),
      count_kept g (λ (e : BlockEquation). empty e.cells) b.equations,
    )

-- an equation without cells is connected with nothing
pub reached_cells : (b : Block) (e : BlockEquation) → empty e.cells ≡ true → reached b e ≡ false
reached_cells b e t =
    ap (λ (l : List ℕ). meets (reach b l) b.cells) (empty_nil e.cells t)
    ∙ ap (λ (l : List ℕ). meets l b.cells)
    (connected_stays b.equations (length b.equations) [] (widened_none b.equations [] (λ x m. apart_meets x.cells [] (λ c h. refl))))

pub inside_reached : (b : Block) → inside b ≡ true → (e : BlockEquation) → Memᴰ e b.equations → reached b e ≡ not (empty e.cells)
inside_reached b h e m = go e.cells refl
  where
    go : (l : List ℕ) → e.cells ≡ l → reached b e ≡ not (empty e.cells)
    go [] w = reached_cells b e (ap empty w) ∙ sym (ap (λ (k : List ℕ). not (empty k)) w)
    go (c ∷ l) w =
        let own : has e.cells c ≡ true = rw w (has_head c l) in
        any_of (has b.cells) (reach b e.cells) c (connected_adds b.equations (length b.equations) e.cells c own)
        (all_within e.cells b.cells (all_in (λ (x : BlockEquation). all (has b.cells) x.cells) b.equations h m) c own)
        ∙ sym (ap (λ (k : List ℕ). not (empty k)) w)

-- where equations have cells of their block only, those with cells are there turned round, those without as they were
pub chunk_equations_inside : (b : Block) → inside b ≡ true → empty b.cells ≡ false → (g : BlockEquation → Bool)
    → count g (all_equations (chunk_matrix b))
    ≡ count g (map turned (keep (λ (e : BlockEquation). not (empty e.cells)) b.equations) ++ without_cells b)
chunk_equations_inside b h t g =
    let some = keep (λ (e : BlockEquation). not (empty e.cells)) b.equations in
    omega (
      arith,
      chunk_equations b t g,
      counts_ext (λ (e : BlockEquation). reached b e && g (turned e)) (λ (e : BlockEquation). not (empty e.cells) && g (turned e)) b.equations
          (λ e m. ap (λ (x : Bool). x && g (turned e)) (inside_reached b h e m)),
      count_append g (map turned some) (without_cells b),
      counts_map g turned some,
      count_kept (λ e. g (turned e)) (λ (e : BlockEquation). not (empty e.cells)) b.equations,
      count_kept g (λ (e : BlockEquation). empty e.cells) b.equations,
    )

pub inside_dropped : (b : Block) → inside b ≡ true → dropped b ≡ cond (empty b.cells) b.equations []
inside_dropped b h = ap (cond (empty b.cells) b.equations) (none b.equations (λ e m. inside_reached b h e m))
  where
    none : (es : List BlockEquation) → ((e : BlockEquation) → Memᴰ e es → reached b e ≡ not (empty e.cells))
        → keep (λ (e : BlockEquation). not (reached b e || empty e.cells)) es ≡ []
    none [] k = refl
    none (e ∷ es) k = rw (k e (Memᴰ.head refl)) (go (empty e.cells) (none es (λ x m. k x (Memᴰ.tail m))))
      where
        go : (t : Bool) → keep (λ (x : BlockEquation). not (reached b x || empty x.cells)) es ≡ []
            → cond (not (not t || t)) (e ∷ keep (λ (x : BlockEquation). not (reached b x || empty x.cells)) es) (keep (λ (x : BlockEquation). not (reached b x || empty x.cells)) es) ≡ []
        go true ih = ih
        go false ih = ih

-- a test that is the same for an equation turned round counts alike before, and after with what is dropped
module _ (g : BlockEquation → Bool) (same : (e : BlockEquation) → g (turned e) ≡ g e) where
  pub chunk_kept : (b : Block) → count g (all_equations (chunk_matrix b)) + count g (dropped b) ≡ count g b.equations
  chunk_kept b = go (decided (empty b.cells))
    where
      once : (e : BlockEquation) → bit (reached b e && g (turned e)) + bit (empty e.cells && g e) ≡ bit ((reached b e || empty e.cells) && g e)
      once e = at (decided (empty e.cells))
        where
          sum : (r t : Bool) → bit (r && t) + bit (false && t) ≡ bit ((r || false) && t)
          sum true true = refl
          sum true false = refl
          sum false t = refl

          at : Decided (empty e.cells) → bit (reached b e && g (turned e)) + bit (empty e.cells && g e) ≡ bit ((reached b e || empty e.cells) && g e)
          at (inl t) = rw (t, reached_cells b e t) (omega arith)
          at (inr t) = rw (t, same e) (sum (reached b e) (g e))

      rest : (e : BlockEquation) → bit ((reached b e || empty e.cells) && g e) + bit (not (reached b e || empty e.cells) && g e) ≡ bit (g e)
      rest e = at (reached b e || empty e.cells)
        where
          at : (t : Bool) → bit (t && g e) + bit (not t && g e) ≡ bit (g e)
          at true = omega arith
          at false = omega arith

      go : Decided (empty b.cells) → count g (all_equations (chunk_matrix b)) + count g (dropped b) ≡ count g b.equations
      go (inl t) = rw (chunk_none b t, t) (omega arith)
      go (inr t) =
          rw t
          (omega (
            arith,
            chunk_equations b t g,
            counts_sum_lem (λ (e : BlockEquation). reached b e && g (turned e)) (λ (e : BlockEquation). empty e.cells && g e)
                (λ (e : BlockEquation). (reached b e || empty e.cells) && g e) b.equations (λ e m. once e),
            counts_sum_lem (λ (e : BlockEquation). (reached b e || empty e.cells) && g e) (λ (e : BlockEquation). not (reached b e || empty e.cells) && g e) g b.equations (λ e m. rest e),
            count_kept g (λ (e : BlockEquation). not (reached b e || empty e.cells)) b.equations,
          ))

-- ---- all blocks

-- the first block is split last
pub chunks_cons : (b : Block) (bs : List Block) → chunk_matrixes (b ∷ bs) ≡ chunk_matrixes bs ++ chunk_matrix b
unfolding chunk_matrixes
chunks_cons b bs = ap (λ (l : List Block). joined (map chunk_matrix l)) (reverse-cons b bs) ∙ joined_push chunk_matrix (reverse bs) b

pub chunks_nil : chunk_matrixes [] ≡ []
unfolding chunk_matrixes
chunks_nil = refl

pub chunks_cells : (f : ℕ → Bool) (bs : List Block) → count f (all_cells (chunk_matrixes bs)) ≡ count f (joined (map used_cells bs))
chunks_cells f [] = ap (λ (l : List Block). count f (all_cells l)) chunks_nil
chunks_cells f (b ∷ bs) =
    omega (
      arith,
      ap (λ (l : List Block). count f (all_cells l)) (chunks_cons b bs),
      ap (count f) (cells_append (chunk_matrixes bs) (chunk_matrix b)),
      count_append f (all_cells (chunk_matrixes bs)) (all_cells (chunk_matrix b)),
      chunk_cells b f,
      chunks_cells f bs,
      count_append f (used_cells b) (joined (map used_cells bs)),
    )

-- no cell stands more often than before
used_fewer : (f : ℕ → Bool) (b : Block) → count f (used_cells b) ≤ count f b.cells
used_fewer f b = go b.cells
  where
    go : (l : List ℕ) → count f (keep (in_equation b.equations) l) ≤ count f l
    go [] = omega arith
    go (c ∷ l) = at (decided (in_equation b.equations c)) (go l)
      where
        at : Decided (in_equation b.equations c) → count f (keep (in_equation b.equations) l) ≤ count f l
            → count f (keep (in_equation b.equations) (c ∷ l)) ≤ count f (c ∷ l)
        at (inl t) ih = rw t (omega arith)
        at (inr t) ih = rw t (omega arith)

pub chunks_cells_fewer : (f : ℕ → Bool) (bs : List Block) → count f (all_cells (chunk_matrixes bs)) ≤ count f (all_cells bs)
chunks_cells_fewer f bs = omega (arith, chunks_cells f bs, go bs)
  where
    go : (cs : List Block) → count f (joined (map used_cells cs)) ≤ count f (all_cells cs)
    go [] = omega arith
    go (c ∷ cs) = omega (arith, count_append f (used_cells c) (joined (map used_cells cs)), count_append f c.cells (all_cells cs), used_fewer f c, go cs)

-- none stands twice if none did
pub chunks_once : (bs : List Block) → nodup (all_cells bs) ≡ true → nodup (all_cells (chunk_matrixes bs)) ≡ true
chunks_once bs h = count_nodup (all_cells (chunk_matrixes bs)) (λ c. omega (arith, chunks_cells_fewer (eqb c) bs, nodup_count (all_cells bs) h c))

pub chunks_kept : (g : BlockEquation → Bool) → ((e : BlockEquation) → g (turned e) ≡ g e) → (bs : List Block)
    → count g (all_equations (chunk_matrixes bs)) + count g (all_dropped bs) ≡ count g (all_equations bs)
chunks_kept g same [] = ap (λ (l : List Block). count g (all_equations l) + 0) chunks_nil
chunks_kept g same (b ∷ bs) =
    omega (
      arith,
      ap (λ (l : List Block). count g (all_equations l)) (chunks_cons b bs),
      ap (count g) (equations_append (chunk_matrixes bs) (chunk_matrix b)),
      count_append g (all_equations (chunk_matrixes bs)) (all_equations (chunk_matrix b)),
      chunk_kept g same b,
      chunks_kept g same bs,
      count_append g (dropped b) (all_dropped bs),
      count_append g b.equations (all_equations bs),
    )
