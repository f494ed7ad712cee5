-- The parts of a block, and what of the block they have together. A part is found by its first cell, and the cells left are not connected with it, so each
-- cell and each equation goes to one part. A cell goes to a part exactly if some equation has it, and an equation if its cells are connected with the
-- block's. Counts say so: every test counts alike before and after. Rests on `connected_closed` and `connected_apart`. Assumes nothing.
use mathlib.Core.Path.{◌≡◌, refl, sym, ap, ◌∙◌}
use mathlib.Core.Logic.{◌⊎◌, inl, inr}
use mathlib.Core.Bool.{Bool, true, false, not, cond, ◌&&◌}
use mathlib.Core.List.Memᴰ
use mathlib.Core.List.{List, [], ◌∷◌, append-nil, reverse, Memᴰ}
use Prim.Native.Nat.{ℕ, zero, suc, ◌+◌, ◌≤◌}
use native.Mathlib.Omega.{arith}
use lib.ListN.{length}
use Rattle.lists.specs.Lists.{bit, keep, count, empty, has, meets}
use Rattle.lists.proofs.Tests.{Decided, decided, clash}
use Rattle.lists.proofs.Members.{has_head, has_tail, has_keep, kept_passes, kept_has}
use Rattle.lists.proofs.Counts.{any_at, any_of, count_le, count_ext, count_zero, count_split, length_keep, count_append, count_kept}
use Rattle.lists.proofs.Kept.{keep_stricter}
use Rattle.lists.proofs.Occurrences.{empty_nothing, not_empty, empty_nil, kept_in, in_kept, reverse_in, in_reverse, any_in, in_any, map_in}
use Rattle.lists.proofs.CountsAlike.{counts_reverse, counts_sum_lem, counts_zero, counts_map}
use Rattle.lists.proofs.Sharing.{Apart, Within, meets_apart, apart_meets, one_apart, all_within}
use Rattle.blocks.specs.Blocks.{BlockEquation, Block}
use Rattle.blocks.specs.BlockSets.{all_cells, all_equations}
use Rattle.blocks.proofs.Behind.{cells_append, equations_append}
use Rattle.chunks.specs.Chunks.{connected, part, parts}
use Rattle.chunks.proofs.Connected.{Closed, Chain, here, next, in_equation, connected_adds, connected_stays, widened_none, connected_closed, connected_within, connected_apart, connected_chain}

-- ---- words

-- an equation with its cells turned round
abbrev pub turned : BlockEquation → BlockEquation
turned e = record { cells = reverse e.cells; rest = e.rest }

module _ (b : Block) where
  -- the cells connected with a list, or with one cell
  abbrev pub reach : List ℕ → List ℕ
  reach l = connected b.equations (length b.equations) l

  abbrev pub around : ℕ → List ℕ
  around c = reach (c ∷ [])

  -- the part that begins with a cell, as a list: none where it has no equation
  abbrev pub own : ℕ → List Block
  own c = cond (empty (part b (around c)).equations) [] (part b (around c) ∷ [])

  -- the cells left once it is taken out
  abbrev pub others : ℕ → List ℕ → List ℕ
  others c l = keep (λ d. not (has (around c) d)) l

  -- ---- the cells around a cell

  pub around_has : (c : ℕ) → has (around c) c ≡ true
  around_has c = connected_adds b.equations (length b.equations) (c ∷ []) c (has_head c [])

  pub around_closed : (c : ℕ) → Closed b.equations (around c)
  around_closed c = connected_closed b.equations (c ∷ [])

  -- two cells are connected, or the cells around them are apart
  pub around_apart : (c d : ℕ) → has (around c) d ≡ false → Apart (around d) (around c)
  around_apart c d h = connected_apart b.equations (length b.equations) (d ∷ []) (around c) (around_closed c) (one_apart d (around c) h)

  -- what is left has nothing of the cells around
  pub others_apart : (c : ℕ) (l : List ℕ) (d : ℕ) → has (others c l) d ≡ true → has (around c) d ≡ false
  others_apart c l d h = go (has (around c) d) (kept_passes (λ x. not (has (around c) x)) l d h)
    where
      go : (t : Bool) → not t ≡ true → t ≡ false
      go true w = sym w
      go false w = refl

  others_first : (c : ℕ) (l : List ℕ) → others c (c ∷ l) ≡ others c l
  others_first c l = rw (around_has c)

  others_few : (c : ℕ) (l : List ℕ) → length (others c l) ≤ length l
  others_few c l = omega (arith, length_keep (λ d. not (has (around c) d)) l, count_le (λ d. not (has (around c) d)) l)

  -- ---- which parts there are

  -- an equation of a part is one of the block that has a cell around, turned round
  pub part_equation : (c : ℕ) (e : BlockEquation) → Memᴰ e (part b (around c)).equations
      → (x : BlockEquation) × Memᴰ x b.equations × (meets x.cells (around c) ≡ true) × (e ≡ turned x)
  part_equation c e m =
      let (x, k, w) = map_in turned (reverse (keep (λ (y : BlockEquation). meets y.cells (around c)) b.equations)) m in
      let (i, t) = kept_in (λ (y : BlockEquation). meets y.cells (around c)) b.equations x (reverse_in (keep (λ (y : BlockEquation). meets y.cells (around c)) b.equations) k) in
      (x, i, t, w)

  pub equation_part : (c : ℕ) {e : BlockEquation} → Memᴰ e b.equations → meets e.cells (around c) ≡ true → Memᴰ (turned e) (part b (around c)).equations
  equation_part c {e} m t =
      Memᴰ.map turned
      (in_reverse (keep (λ (y : BlockEquation). meets y.cells (around c)) b.equations) (in_kept (λ (y : BlockEquation). meets y.cells (around c)) b.equations m t))

  pub own_is : (c : ℕ) (q : Block) → Memᴰ q (own c) → (q ≡ part b (around c)) × (empty (part b (around c)).equations ≡ false)
  own_is c q m = go (decided (empty (part b (around c)).equations))
    where
      go : Decided (empty (part b (around c)).equations) → (q ≡ part b (around c)) × (empty (part b (around c)).equations ≡ false)
      go (inl t) = absurd (Memᴰ.not-nil (rw t at m))
      go (inr t) = (Memᴰ.eq_of_singleton (rw t at m), t)

  -- each part has the cells around one of the block's cells, and an equation
  pub parts_are : (k : ℕ) (l : List ℕ) (q : Block) → Memᴰ q (parts b k l)
      → (c : ℕ) × (has l c ≡ true) × (q ≡ part b (around c)) × (empty (part b (around c)).equations ≡ false)
  parts_are zero l q m = absurd (Memᴰ.not-nil m)
  parts_are (suc k) [] q m = absurd (Memᴰ.not-nil m)
  parts_are (suc k) (c ∷ l) q m = go (Memᴰ.append_cases (own c) m) (λ r. parts_are k (others c l) q r)
    where
      go : Memᴰ q (own c) ⊎ Memᴰ q (parts b k (others c l))
          → (Memᴰ q (parts b k (others c l)) → (d : ℕ) × (has (others c l) d ≡ true) × (q ≡ part b (around d)) × (empty (part b (around d)).equations ≡ false))
          → (d : ℕ) × (has (c ∷ l) d ≡ true) × (q ≡ part b (around d)) × (empty (part b (around d)).equations ≡ false)
      go (inl r) ih = let (w, t) = own_is c q r in (c, has_head c l, w, t)
      go (inr r) ih = let (d, h, w, t) = ih r in (d, has_tail c l d (kept_has (λ x. not (has (around c) x)) l d h), w, t)

  -- ---- the cells of all parts

  -- no equation has a cell: nothing else is connected with it
  alone_around : (c : ℕ) → in_equation b.equations c ≡ false → (e : BlockEquation) → Memᴰ e b.equations → meets e.cells (around c) ≡ false
  alone_around c h e m = rw (connected_stays b.equations (length b.equations) (c ∷ []) (widened_none b.equations (c ∷ []) none)) (none e m)
    where
      free : (x : BlockEquation) → Memᴰ x b.equations → has x.cells c ≡ false
      free x k = go (decided (has x.cells c))
        where
          go : Decided (has x.cells c) → has x.cells c ≡ false
          go (inl t) = clash (in_equation b.equations c) (in_any (λ (y : BlockEquation). has y.cells c) b.equations k t) h
          go (inr t) = t

      none : (x : BlockEquation) → Memᴰ x b.equations → meets x.cells (c ∷ []) ≡ false
      none x k = apart_meets x.cells (c ∷ []) (λ d t. go d t (decided (has (c ∷ []) d)))
        where
          go : (d : ℕ) → has x.cells d ≡ true → Decided (has (c ∷ []) d) → has (c ∷ []) d ≡ false
          go d t (inl u) = clash (has x.cells d) t (one_apart c x.cells (free x k) d u)
          go d t (inr u) = u

  -- the cells around a cell stand in equations, all of them, or none where the part has no equation
  pub around_in_equation : (c d : ℕ) → has (around c) d ≡ true → in_equation b.equations d ≡ not (empty (part b (around c)).equations)
  around_in_equation c d h = go (decided (empty (part b (around c)).equations)) (decided (in_equation b.equations d))
    where
      first : empty (part b (around c)).equations ≡ false → in_equation b.equations c ≡ true
      first t = at (decided (in_equation b.equations c))
        where
          at : Decided (in_equation b.equations c) → in_equation b.equations c ≡ true
          at (inl u) = u
          at (inr u) =
              let (e, m) = not_empty (part b (around c)).equations t in
              let (x, k, w, z) = part_equation c e m in
              clash (meets x.cells (around c)) w (alone_around c u x k)

      all_in : empty (part b (around c)).equations ≡ false → {x : ℕ} → Chain b.equations c x → in_equation b.equations x ≡ true
      all_in t here = first t
      all_in t {x} (next a e r m u v) = in_any (λ (y : BlockEquation). has y.cells x) b.equations m v

      go : Decided (empty (part b (around c)).equations) → Decided (in_equation b.equations d) → in_equation b.equations d ≡ not (empty (part b (around c)).equations)
      go (inl t) (inl u) =
          let (e, m, v) = any_in (λ (y : BlockEquation). has y.cells d) b.equations u in
          absurd (empty_nothing (part b (around c)).equations t (equation_part c m (any_of (has (around c)) e.cells d v h)))
      go (inl t) (inr u) = rw (t, u)
      go (inr t) u = rw t (all_in t (connected_chain b.equations (length b.equations) c d h))

  -- the list has all cells of the block that are connected with one of its own
  abbrev pub Full : List ℕ → Type 0
  Full l = (c : ℕ) → has l c ≡ true → keep (has (around c)) b.cells ≡ keep (has (around c)) l

  others_full : (c : ℕ) (l : List ℕ) → Full (c ∷ l) → Full (others c l)
  others_full c l h d m =
      h d (has_tail c l d (kept_has (λ x. not (has (around c) x)) l d m))
      ∙ sym (keep_stricter (has (around d)) (λ x. not (has (around c) x)) (c ∷ l) (λ x t. rw (around_apart c d (others_apart c l d m) x t)))
      ∙ ap (keep (has (around d))) (others_first c l)

  own_cells_lem : (f : ℕ → Bool) (c : ℕ) (l : List ℕ) → Full (c ∷ l)
      → count f (all_cells (own c)) ≡ count (λ d. in_equation b.equations d && f d) (keep (has (around c)) (c ∷ l))
  own_cells_lem f c l h = go (decided (empty (part b (around c)).equations))
    where
      kept : (d : ℕ) → has (keep (has (around c)) (c ∷ l)) d ≡ true → in_equation b.equations d ≡ not (empty (part b (around c)).equations)
      kept d m = around_in_equation c d (kept_passes (has (around c)) (c ∷ l) d m)

      go : Decided (empty (part b (around c)).equations) → count f (all_cells (own c)) ≡ count (λ d. in_equation b.equations d && f d) (keep (has (around c)) (c ∷ l))
      go (inl t) =
          rw t
          (sym
          (count_zero (λ d. in_equation b.equations d && f d) (keep (has (around c)) (c ∷ l)) (λ d m. ap (λ (x : Bool). x && f d) (kept d m ∙ ap not t))))
      go (inr t) =
          rw t
          (ap (count f) (append-nil (reverse (keep (has (around c)) b.cells)))
          ∙ counts_reverse f (keep (has (around c)) b.cells)
          ∙ ap (count f) (h c (has_head c l))
          ∙ count_ext f (λ d. in_equation b.equations d && f d) (keep (has (around c)) (c ∷ l)) (λ d m. sym (ap (λ (x : Bool). x && f d) (kept d m ∙ ap not t))))

  pub parts_cells : (f : ℕ → Bool) (k : ℕ) (l : List ℕ) → length l ≤ k → Full l → count f (all_cells (parts b k l)) ≡ count (λ d. in_equation b.equations d && f d) l
  parts_cells f zero [] n h = refl
  parts_cells f zero (c ∷ l) n h = absurd (omega arith)
  parts_cells f (suc k) [] n h = refl
  parts_cells f (suc k) (c ∷ l) n h =
      let g : ℕ → Bool = λ d. in_equation b.equations d && f d in
      omega (
        arith,
        ap (count f) (cells_append (own c) (parts b k (others c l))),
        count_append f (all_cells (own c)) (all_cells (parts b k (others c l))),
        own_cells_lem f c l h,
        parts_cells f k (others c l) (omega (arith, others_few c l)) (others_full c l h),
        count_split g (has (around c)) (c ∷ l),
        ap (count g) (others_first c l),
      )

  -- ---- the equations of all parts

  own_equations : (c : ℕ) → all_equations (own c) ≡ (part b (around c)).equations
  own_equations c = go (decided (empty (part b (around c)).equations))
    where
      go : Decided (empty (part b (around c)).equations) → all_equations (own c) ≡ (part b (around c)).equations
      go (inl t) = rw t (sym (empty_nil (part b (around c)).equations t))
      go (inr t) = rw t (append-nil (part b (around c)).equations)

  part_count : (g : BlockEquation → Bool) (c : ℕ) → count g (part b (around c)).equations ≡ count (λ (e : BlockEquation). meets e.cells (around c) && g (turned e)) b.equations
  part_count g c =
      let kept = keep (λ (e : BlockEquation). meets e.cells (around c)) b.equations in
      counts_map g turned (reverse kept)
      ∙ counts_reverse (λ e. g (turned e)) kept
      ∙ count_kept (λ e. g (turned e)) (λ (e : BlockEquation). meets e.cells (around c)) b.equations

  -- an equation of the block goes to this part, or to one of the others, or to none
  one_part : (c : ℕ) (l : List ℕ) (e : BlockEquation) (t : Bool) → Memᴰ e b.equations
      → bit (meets e.cells (around c) && t) + bit (meets (reach e.cells) (others c l) && t) ≡ bit (meets (reach e.cells) (c ∷ l) && t)
  one_part c l e t m = go (decided (meets e.cells (around c)))
    where
      closed : Closed b.equations (reach e.cells)
      closed = connected_closed b.equations e.cells

      -- the cell stands among those that the equation reaches
      back : meets e.cells (around c) ≡ true → has (reach e.cells) c ≡ true
      back h = at (decided (has (reach e.cells) c))
        where
          at : Decided (has (reach e.cells) c) → has (reach e.cells) c ≡ true
          at (inl u) = u
          at (inr u) =
              let (d, x, y) = any_at (has (around c)) e.cells h in
              clash (has (reach e.cells) d) (connected_adds b.equations (length b.equations) e.cells d x)
              (connected_apart b.equations (length b.equations) (c ∷ []) (reach e.cells) closed (one_apart c (reach e.cells) u) d y)

      go : Decided (meets e.cells (around c))
          → bit (meets e.cells (around c) && t) + bit (meets (reach e.cells) (others c l) && t) ≡ bit (meets (reach e.cells) (c ∷ l) && t)
      go (inl h) =
          let inside : Within (reach e.cells) (around c) =
          connected_within b.equations (length b.equations) e.cells (around c) (around_closed c) (all_within e.cells (around c) (around_closed c e m h)) in
          let here : meets (reach e.cells) (c ∷ l) ≡ true = any_of (has (c ∷ l)) (reach e.cells) c (back h) (has_head c l) in
          let there : meets (reach e.cells) (others c l) ≡ false =
          apart_meets (reach e.cells) (others c l) (λ d u. off d (inside d u) (decided (has (others c l) d))) in
          rw (h, here, there) (omega arith)
        where
          off : (d : ℕ) → has (around c) d ≡ true → Decided (has (others c l) d) → has (others c l) d ≡ false
          off d u (inl v) = clash (has (around c) d) u (others_apart c l d v)
          off d u (inr v) = v
      go (inr h) =
          let away : Apart (reach e.cells) (around c) =
          connected_apart b.equations (length b.equations) e.cells (around c) (around_closed c) (meets_apart e.cells (around c) h) in
          let same : meets (reach e.cells) (others c l) ≡ meets (reach e.cells) (c ∷ l) = alike (reach e.cells) away in
          rw (h, same) (omega arith)
        where
          alike : (k : List ℕ) → Apart k (around c) → meets k (others c l) ≡ meets k (c ∷ l)
          alike [] a = refl
          alike (d ∷ k) a =
              let one : has (others c l) d ≡ has (c ∷ l) d =
              ap (λ (x : List ℕ). has x d) (sym (others_first c l)) ∙ has_keep (λ x. not (has (around c) x)) (c ∷ l) d ∙ rw (a d (has_head d k)) in
              rw (one, alike k (λ x u. a x (has_tail d k x u)))

  pub parts_equations : (g : BlockEquation → Bool) (k : ℕ) (l : List ℕ) → length l ≤ k
      → count g (all_equations (parts b k l)) ≡ count (λ (e : BlockEquation). meets (reach e.cells) l && g (turned e)) b.equations
  parts_equations g zero [] n = sym (counts_zero (λ (e : BlockEquation). meets (reach e.cells) [] && g (turned e)) b.equations (λ e m. rw (apart_meets (reach e.cells) [] (λ d u. refl))))
  parts_equations g zero (c ∷ l) n = absurd (omega arith)
  parts_equations g (suc k) [] n = sym (counts_zero (λ (e : BlockEquation). meets (reach e.cells) [] && g (turned e)) b.equations (λ e m. rw (apart_meets (reach e.cells) [] (λ d u. refl))))
  parts_equations g (suc k) (c ∷ l) n =
      omega (
        arith,
        ap (count g) (equations_append (own c) (parts b k (others c l))),
        count_append g (all_equations (own c)) (all_equations (parts b k (others c l))),
        ap (count g) (own_equations c),
        part_count g c,
        parts_equations g k (others c l) (omega (arith, others_few c l)),
        counts_sum_lem (λ (e : BlockEquation). meets e.cells (around c) && g (turned e))
            (λ (e : BlockEquation). meets (reach e.cells) (others c l) && g (turned e))
            (λ (e : BlockEquation). meets (reach e.cells) (c ∷ l) && g (turned e))
            b.equations
            (λ e m. one_part c l e (g (turned e)) m),
      )
