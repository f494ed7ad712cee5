-- The blocks split anew are apart, connected and whole: no two of them touch a common cell, in their cells or in an equation, any two cells of one are
-- joined by a chain of its equations, and each has the cells of its equations if the block before had (`inside`). All of it is said of one part by the
-- cells around its first cell. Rests on `parts_are` and `around_apart`. Assumes nothing.
use mathlib.Core.Path.{◌≡◌, refl, sym, ap, ◌∙◌}
use mathlib.Core.Logic.{◌⊎◌, inl, inr}
use mathlib.Core.Bool.{Bool, true, false, ◌||◌}
use mathlib.Core.List.Memᴰ
use mathlib.Core.List.{List, [], ◌∷◌, ◌++◌, map, Memᴰ}
use Prim.Native.Nat.{ℕ, zero, suc}
use lib.ListN.{length}
use Rattle.lists.specs.Lists.{keep, all, empty, has}
use Rattle.lists.proofs.Tests.{Decided, decided, clash, or_cases, or_left, or_right}
use Rattle.lists.proofs.Members.{kept_passes, kept_has, has_kept}
use Rattle.lists.proofs.Counts.{any_of}
use Rattle.lists.proofs.Occurrences.{has_reverse, empty_nil, kept_in, any_in, in_any, all_in, map_in}
use Rattle.lists.proofs.Unions.{all_of}
use Rattle.lists.proofs.Sharing.{all_within, within_all}
use Rattle.blocks.specs.Blocks.{BlockEquation, Block}
use Rattle.chunks.specs.Chunks.{part, parts, alone, chunk_matrix, chunk_matrixes}
use Rattle.chunks.proofs.Connected.{Chain, here, next, in_equation, connected_chain, chain_connected, chain_joined, chain_turned}
use Rattle.chunks.proofs.Parts.{turned, around, others, around_has, around_closed, around_apart, others_apart, part_equation, equation_part, parts_are}
use Rattle.chunks.proofs.Contents.{inside, without_cells, chunk_none, chunk_some, chunks_cons, chunks_nil}

-- ---- words

-- a block has a cell, among its cells or in an equation
abbrev pub touches : Block → ℕ → Bool
touches q c = has q.cells c || in_equation q.equations c

-- two blocks touch no common cell
abbrev pub Separate : Block → Block → Type 0
Separate q r = (c : ℕ) → touches q c ≡ true → touches r c ≡ false

-- no two of the blocks do
pub data AllApart : List Block → Type 0 where
  none : AllApart []
  more : {q : Block} {bs : List Block} → ((r : Block) → Memᴰ r bs → Separate q r) → AllApart bs → AllApart (q ∷ bs)

separate_turned : (q r : Block) → Separate q r → Separate r q
separate_turned q r h c t = go (decided (touches q c))
  where
    go : Decided (touches q c) → touches q c ≡ false
    go (inl u) = clash (touches r c) t (h c u)
    go (inr u) = u

apart_append : (bs cs : List Block) → AllApart bs → AllApart cs → ((q r : Block) → Memᴰ q bs → Memᴰ r cs → Separate q r) → AllApart (bs ++ cs)
apart_append [] cs h k s = k
apart_append (b ∷ bs) cs (more f h) k s =
    more (λ r m. go r (Memᴰ.append_cases bs m)) (apart_append bs cs h k (λ q r m n. s q r (Memᴰ.tail m) n))
  where
    go : (r : Block) → Memᴰ r bs ⊎ Memᴰ r cs → Separate b r
    go r (inl m) = f r m
    go r (inr m) = s b r (Memᴰ.head refl) m

-- ---- one part

module _ (b : Block) (c : ℕ) where
  part_cell : (d : ℕ) → has (part b (around b c)).cells d ≡ true → has (keep (has (around b c)) b.cells) d ≡ true
  part_cell d h = sym (has_reverse (keep (has (around b c)) b.cells) d) ∙ h

  -- an equation of the part lies around its first cell
  part_lies : (e : BlockEquation) → Memᴰ e (part b (around b c)).equations → (d : ℕ) → has e.cells d ≡ true → has (around b c) d ≡ true
  part_lies e m d h =
      let (x, k, t, w) = part_equation b c e m in
      all_within x.cells (around b c) (around_closed b c x k t) d (sym (has_reverse x.cells d) ∙ ap (λ (y : BlockEquation). has y.cells d) (sym w) ∙ h)

  part_touches : (d : ℕ) → touches (part b (around b c)) d ≡ true → has (around b c) d ≡ true
  part_touches d h = go (or_cases (has (part b (around b c)).cells d) (in_equation (part b (around b c)).equations d) h)
    where
      go : (has (part b (around b c)).cells d ≡ true) ⊎ (in_equation (part b (around b c)).equations d ≡ true) → has (around b c) d ≡ true
      go (inl t) = kept_passes (has (around b c)) b.cells d (part_cell d t)
      go (inr t) =
          let (e, m, u) = any_in (λ (x : BlockEquation). has x.cells d) (part b (around b c)).equations t in
          part_lies e m d u

  -- and touches nothing that the block does not touch
  part_of : (d : ℕ) → touches (part b (around b c)) d ≡ true → touches b d ≡ true
  part_of d h = go (or_cases (has (part b (around b c)).cells d) (in_equation (part b (around b c)).equations d) h)
    where
      go : (has (part b (around b c)).cells d ≡ true) ⊎ (in_equation (part b (around b c)).equations d ≡ true) → touches b d ≡ true
      go (inl t) = or_left (has b.cells d) (in_equation b.equations d) (kept_has (has (around b c)) b.cells d (part_cell d t))
      go (inr t) =
          let (e, m, u) = any_in (λ (x : BlockEquation). has x.cells d) (part b (around b c)).equations t in
          let (x, k, v, w) = part_equation b c e m in
          or_right (has b.cells d) (in_equation b.equations d)
          (in_any (λ (y : BlockEquation). has y.cells d) b.equations k (sym (has_reverse x.cells d) ∙ ap (λ (y : BlockEquation). has y.cells d) (sym w) ∙ u))

  -- a chain of the block's equations from the first cell is one of the part's
  part_chain : {d : ℕ} → Chain b.equations c d → Chain (part b (around b c)).equations c d
  part_chain here = here
  part_chain {d = d} (next a e r m u v) =
      let near : has (around b c) a ≡ true = chain_connected b.equations (around b c) (around_closed b c) (around_has b c) r in
      next a (turned e) (part_chain r) (equation_part b c m (any_of (has (around b c)) e.cells a u near)) (has_reverse e.cells a ∙ u) (has_reverse e.cells d ∙ v)

  part_joined : (x y : ℕ) → has (part b (around b c)).cells x ≡ true → has (part b (around b c)).cells y ≡ true → Chain (part b (around b c)).equations x y
  part_joined x y h k = chain_joined (part b (around b c)).equations (chain_turned (part b (around b c)).equations (from x h)) (from y k)
    where
      from : (d : ℕ) → has (part b (around b c)).cells d ≡ true → Chain (part b (around b c)).equations c d
      from d t = part_chain (connected_chain b.equations (length b.equations) c d (kept_passes (has (around b c)) b.cells d (part_cell d t)))

  part_inside : inside b ≡ true → inside (part b (around b c)) ≡ true
  part_inside h = all_of (λ (e : BlockEquation). all (has (part b (around b c)).cells) e.cells) (part b (around b c)).equations own_cells_lem
    where
      own_cells_lem : (e : BlockEquation) → Memᴰ e (part b (around b c)).equations → all (has (part b (around b c)).cells) e.cells ≡ true
      own_cells_lem e m = within_all e.cells (part b (around b c)).cells at
        where
          at : (d : ℕ) → has e.cells d ≡ true → has (part b (around b c)).cells d ≡ true
          at d t =
              let (x, k, u, w) = part_equation b c e m in
              let before : has x.cells d ≡ true = sym (has_reverse x.cells d) ∙ ap (λ (y : BlockEquation). has y.cells d) (sym w) ∙ t in
              has_reverse (keep (has (around b c)) b.cells) d
              ∙ has_kept (has (around b c)) b.cells d (part_lies e m d t)
              (all_within x.cells b.cells (all_in (λ (y : BlockEquation). all (has b.cells) y.cells) b.equations h k) d before)

-- ---- all parts of a block

module _ (b : Block) where
  parts_apart : (k : ℕ) (l : List ℕ) → AllApart (parts b k l)
  parts_apart zero l = none
  parts_apart (suc k) [] = none
  parts_apart (suc k) (c ∷ l) = go (decided (empty (part b (around b c)).equations)) (parts_apart k (others b c l))
    where
      away : (r : Block) → Memᴰ r (parts b k (others b c l)) → Separate (part b (around b c)) r
      away r m x t = at (decided (touches r x))
        where
          at : Decided (touches r x) → touches r x ≡ false
          at (inl u) =
              let (d, h, w, v) = parts_are b k (others b c l) r m in
              clash (has (around b c) x) (part_touches b c x t)
              (around_apart b c d (others_apart b c l d h) x (part_touches b d x (ap (λ (q : Block). touches q x) (sym w) ∙ u)))
          at (inr u) = u

      go : Decided (empty (part b (around b c)).equations) → AllApart (parts b k (others b c l)) → AllApart (parts b (suc k) (c ∷ l))
      go (inl t) ih = rw t ih
      go (inr t) ih = rw t (more away ih)

  -- ---- with the equations without cells

  -- an equation without cells touches nothing
  alone_touches : (q : Block) → Memᴰ q (map alone (without_cells b)) → (c : ℕ) → touches q c ≡ false
  alone_touches q m c =
      let (e, k, w) = map_in alone (without_cells b) m in
      let (i, t) = kept_in (λ (x : BlockEquation). empty x.cells) b.equations e k in
      rw (w, empty_nil e.cells t)

  alone_apart : (es : List BlockEquation) → ((q : Block) → Memᴰ q (map alone es) → (c : ℕ) → touches q c ≡ false) → AllApart (map alone es)
  alone_apart [] h = none
  alone_apart (e ∷ es) h = more (λ r m c t. h r (Memᴰ.tail m) c) (alone_apart es (λ q m. h q (Memᴰ.tail m)))

  -- each block split anew is a part, or an equation without cells
  pub chunk_is : (q : Block) → Memᴰ q (chunk_matrix b) → ((c : ℕ) × (q ≡ part b (around b c))) ⊎ ((c : ℕ) → touches q c ≡ false)
  chunk_is q m = go (decided (empty b.cells))
    where
      go : Decided (empty b.cells) → ((c : ℕ) × (q ≡ part b (around b c))) ⊎ ((c : ℕ) → touches q c ≡ false)
      go (inl t) = absurd (Memᴰ.not-nil (rw (chunk_none b t) at m))
      go (inr t) = at (Memᴰ.append_cases (parts b (length b.cells) b.cells) (rw (chunk_some b t) at m))
        where
          at : Memᴰ q (parts b (length b.cells) b.cells) ⊎ Memᴰ q (map alone (without_cells b))
              → ((c : ℕ) × (q ≡ part b (around b c))) ⊎ ((c : ℕ) → touches q c ≡ false)
          at (inl k) = let (c, h, w, u) = parts_are b (length b.cells) b.cells q k in inl (c, w)
          at (inr k) = inr (alone_touches q k)

  pub chunk_apart : AllApart (chunk_matrix b)
  chunk_apart = go (decided (empty b.cells))
    where
      go : Decided (empty b.cells) → AllApart (chunk_matrix b)
      go (inl t) = rw (chunk_none b t) none
      go (inr t) =
          rw (chunk_some b t)
          (apart_append (parts b (length b.cells) b.cells) (map alone (without_cells b)) (parts_apart (length b.cells) b.cells)
          (alone_apart (without_cells b) alone_touches) (λ q r m n c h. alone_touches r n c))

  pub chunk_touches : (q : Block) → Memᴰ q (chunk_matrix b) → (d : ℕ) → touches q d ≡ true → touches b d ≡ true
  chunk_touches q m d h = go (chunk_is q m)
    where
      go : ((c : ℕ) × (q ≡ part b (around b c))) ⊎ ((c : ℕ) → touches q c ≡ false) → touches b d ≡ true
      go (inl (c, w)) = part_of b c d (ap (λ (r : Block). touches r d) (sym w) ∙ h)
      go (inr f) = clash (touches q d) h (f d)

  pub chunk_connected : (q : Block) → Memᴰ q (chunk_matrix b) → (x y : ℕ) → has q.cells x ≡ true → has q.cells y ≡ true → Chain q.equations x y
  chunk_connected q m x y h k = go (chunk_is q m)
    where
      go : ((c : ℕ) × (q ≡ part b (around b c))) ⊎ ((c : ℕ) → touches q c ≡ false) → Chain q.equations x y
      go (inl (c, w)) = rw w (part_joined b c x y (rw w at h) (rw w at k))
      go (inr f) = clash (touches q x) (or_left (has q.cells x) (in_equation q.equations x) h) (f x)

  pub chunk_inside : inside b ≡ true → (q : Block) → Memᴰ q (chunk_matrix b) → inside q ≡ true
  chunk_inside i q m = go (chunk_is q m)
    where
      go : ((c : ℕ) × (q ≡ part b (around b c))) ⊎ ((c : ℕ) → touches q c ≡ false) → inside q ≡ true
      go (inl (c, w)) = rw w (part_inside b c i)
      go (inr f) = all_of (λ (e : BlockEquation). all (has q.cells) e.cells) q.equations (λ e k. within_all e.cells q.cells (λ d t. off e k d t))
        where
          off : (e : BlockEquation) → Memᴰ e q.equations → (d : ℕ) → has e.cells d ≡ true → has q.cells d ≡ true
          off e k d t =
              clash (touches q d) (or_right (has q.cells d) (in_equation q.equations d) (in_any (λ (x : BlockEquation). has x.cells d) q.equations k t)) (f d)

-- ---- all blocks

-- each block split anew comes from one of the blocks before
pub chunks_are : (bs : List Block) (q : Block) → Memᴰ q (chunk_matrixes bs) → (b : Block) × Memᴰ b bs × Memᴰ q (chunk_matrix b)
chunks_are [] q m = absurd (Memᴰ.not-nil (rw chunks_nil at m))
chunks_are (b ∷ bs) q m = go (Memᴰ.append_cases (chunk_matrixes bs) (rw (chunks_cons b bs) at m)) (λ k. chunks_are bs q k)
  where
    go : Memᴰ q (chunk_matrixes bs) ⊎ Memᴰ q (chunk_matrix b) → (Memᴰ q (chunk_matrixes bs) → (r : Block) × Memᴰ r bs × Memᴰ q (chunk_matrix r))
        → (r : Block) × Memᴰ r (b ∷ bs) × Memᴰ q (chunk_matrix r)
    go (inl k) ih = let (r, i, j) = ih k in (r, Memᴰ.tail i, j)
    go (inr k) ih = (b, Memᴰ.head refl, k)

pub chunks_inside : (bs : List Block) → all inside bs ≡ true → all inside (chunk_matrixes bs) ≡ true
chunks_inside bs h = all_of inside (chunk_matrixes bs) (λ q m. let (b, i, j) = chunks_are bs q m in chunk_inside b (all_in inside bs h i) q j)

-- blocks that were apart give blocks that are apart
pub chunks_apart : (bs : List Block) → AllApart bs → AllApart (chunk_matrixes bs)
chunks_apart [] h = rw chunks_nil none
chunks_apart (b ∷ bs) (more f h) = rw (chunks_cons b bs) (apart_append (chunk_matrixes bs) (chunk_matrix b) (chunks_apart bs h) (chunk_apart b) away)
  where
    away : (q r : Block) → Memᴰ q (chunk_matrixes bs) → Memᴰ r (chunk_matrix b) → Separate q r
    away q r m n =
        let (x, i, j) = chunks_are bs q m in
        separate_turned r q (λ c t. go x j i c t (decided (touches q c)))
      where
        go : (x : Block) → Memᴰ q (chunk_matrix x) → Memᴰ x bs → (c : ℕ) → touches r c ≡ true → Decided (touches q c) → touches q c ≡ false
        go x j i c t (inl u) = clash (touches x c) (chunk_touches x q j c u) (f x i c (chunk_touches b r n c t))
        go x j i c t (inr u) = u
