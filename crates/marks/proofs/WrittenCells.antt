-- A position in which a value is written at each cell of a list: such a cell shows the value, and any other what it showed. It comes about by writing one
-- cell after another: the first cell written, with those that follow still to come, is the whole list written. Assumes nothing.
use mathlib.Core.Path.{◌≡◌, refl, sym, ap, ◌∙◌}
use mathlib.Core.Logic.{inl, inr}
use mathlib.Core.Bool.{Bool, true, false, cond, ◌||◌}
use mathlib.Core.List.{List, [], ◌∷◌, map}
use Prim.Native.Nat.{ℕ, ◌+◌, ◌≤◌, ◌<◌}
use native.Mathlib.Decide.{dec_lt}
use native.Mathlib.Omega.{arith}
use lib.Dec.{eqb}
use lib.ListN.{length, get_or, drop, set, length-map, length-set, get_or-eq_default}
use lib.Seq.{get_or-set_same, get_or-set_other}
use borrow.Author.Tests.{eqb-true, eqb-false}
use Rattle.lists.specs.Lists.{range, has}
use Rattle.lists.proofs.Tests.{Decided, decided}
use Rattle.lists.proofs.Elements.{get_d_any}
use Rattle.lists.proofs.Rearranged.{length_range}
use Rattle.lists.proofs.Arrays.{drop_more, drop_none}
use Rattle.lists.proofs.Joined.{read_all, map_range}
use Rattle.grid.specs.Cells.{shows}
use Rattle.marks.specs.Written.{written}
use Rattle.lists.proofs.ReadBack.{range_made}

-- ---- one cell after another

-- nothing is written
pub written_none : (value : ℕ) (p : List ℕ) → written value [] p ≡ p
unfolding written
written_none value p = read_all p 0

-- the first cell is written, the others are still to come
pub written_next : (value x : ℕ) (l p : List ℕ) → written value (x ∷ l) p ≡ written value l (set p x value)
unfolding written
written_next value x l p = map_range before after 0 (length p) (λ c _ h. same c (omega arith) (decided (eqb c x))) ∙ ap (λ (n : ℕ). map after (range 0 n)) (sym (length-set p x value))
  where
    before : ℕ → ℕ
    before c = cond (eqb c x || has l c) value (get_or p c 0)

    after : ℕ → ℕ
    after c = cond (has l c) value (get_or (set p x value) c 0)

    either : (t : Bool) → value ≡ cond t value value
    either true = refl
    either false = refl

    same : (c : ℕ) → c < length p → Decided (eqb c x) → before c ≡ after c
    same c h (inl e) =
        let w : c ≡ x = eqb-true c x e in
        let there : get_or (set p x value) c 0 ≡ value = rw w (get_or-set_same p x value 0 (omega arith)) in
        rw (e, there) (either (has l c))
    same c h (inr e) = rw (e, get_or-set_other p x c value 0 (eqb-false c x e))

-- up to place k of a list the cells are written
module _ (value : ℕ) (l : List ℕ) (k : ℕ) where
  -- the cell x at place k is written
  pub written_more : (x : ℕ) → k < length l → x ≡ get_or l k 0 → (p : List ℕ) → written value (drop k l) p ≡ written value (drop (k + 1) l) (set p x value)
  written_more x inside at p = rw (drop_more l k 0 inside, ← at) (written_next value x (drop (k + 1) l) p)

  -- all are written
  pub written_all : length l ≤ k → (p : List ℕ) → written value (drop k l) p ≡ p
  written_all done p = rw (drop_none l k done) (written_none value p)

-- ---- what it shows

module _ (value : ℕ) (l p : List ℕ) where
  -- as many cells
  pub written_length : length (written value l p) ≡ length p
  unfolding written
  written_length = length-map (range 0 (length p)) (λ c. cond (has l c) value (get_or p c 0)) ∙ length_range 0 (length p)

  -- what stands at a cell of the board
  pub written_at : (c d : ℕ) → c < length p → get_or (written value l p) c d ≡ cond (has l c) value (get_or p c 0)
  unfolding written
  written_at c d h = let e : 0 + c ≡ c = omega arith in rw e at (range_made (λ c. cond (has l c) value (get_or p c 0)) 0 (length p) c d h)

  -- the value, at a cell of the list
  pub written_shows : (c : ℕ) → c < length p → has l c ≡ true → shows (written value l p) c ≡ value
  written_shows c h e = rw e at (written_at c 255 h)

  -- any other shows what it showed
  pub written_elsewhere : (c : ℕ) → has l c ≡ false → shows (written value l p) c ≡ shows p c
  written_elsewhere c e = go (dec_lt c (length p))
    where
      go : Dec (c < length p) → shows (written value l p) c ≡ shows p c
      go (yes h) = rw e at (written_at c 255 h) ∙ get_d_any p c 0 255 h
      go (no n) =
          let h : length p ≤ c = omega (arith, n) in
          get_or-eq_default (written value l p) 255 (omega (arith, written_length)) ∙ sym (get_or-eq_default p 255 h)
