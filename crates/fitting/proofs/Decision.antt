-- The test `fits` passes exactly at the layouts that fit, and the test `free_in_every`, which tries every layout, decides what the solver asks: true says
-- that no layout that fits and passes the test `also` has a mine at the cell, false gives one that has. No axiom is used: there are finitely many layouts.
-- Assumes nothing.
use mathlib.Core.Path.{◌≡◌, refl, sym, ap}
use mathlib.Core.Logic.{◌⊎◌, inl, inr, ◌≢◌}
use mathlib.Core.Bool.{Bool, true, false, not, ◌&&◌, ◌||◌}
use mathlib.Core.List.{List, [], ◌∷◌}
use Prim.Native.Nat.{ℕ, zero, suc, ◌≤◌, ◌<◌}
use native.Mathlib.Omega.{arith}
use native.Mathlib.Decide.{dec_lt}
use lib.Dec.{leb, eqb}
use lib.ListN.{length, get_or-eq_default}
use borrow.Author.Tests.{eqb-true, eqb-false, eq-eqb, leb-true, le-leb, not-true, not-false}
use Rattle.lists.specs.Lists.{count}
use Rattle.lists.proofs.Tests.{Decided, decided, clash, and_left, and_right, and_cases, or_false_left, or_false_right, every_at, every_of}
use Rattle.grid.specs.Cells.{shows}
use Rattle.fitting.specs.Layouts.{mine_at, Fits, ForcedAmong, agrees, fits, every_layout, free_in_every}

-- ---- every layout of n cells

-- a test that passes at every layout passes at each
pub every_layout_at : (n : ℕ) (f : List Bool → Bool) → every_layout n f ≡ true → (m : List Bool) → length m ≡ n → f m ≡ true
every_layout_at zero f h [] l = h
every_layout_at zero f h (x ∷ m) l = absurd (omega arith)
every_layout_at (suc n) f h [] l = absurd (omega arith)
every_layout_at (suc n) f h (false ∷ m) l =
    every_layout_at n (λ k. f (false ∷ k)) (and_left _ (every_layout n (λ k. f (true ∷ k))) h) m (omega arith)
every_layout_at (suc n) f h (true ∷ m) l =
    every_layout_at n (λ k. f (true ∷ k)) (and_right (every_layout n (λ k. f (false ∷ k))) _ h) m (omega arith)

-- a test that doesn't fails at some layout
pub every_layout_not : (n : ℕ) (f : List Bool → Bool) → every_layout n f ≡ false → (m : List Bool) × (length m ≡ n) × (f m ≡ false)
every_layout_not zero f h = ([], refl, h)
every_layout_not (suc n) f h =
    go (every_layout_not n (λ k. f (false ∷ k))) (every_layout_not n (λ k. f (true ∷ k)))
    (and_cases (every_layout n (λ k. f (false ∷ k))) (every_layout n (λ k. f (true ∷ k))) h)
  where
    Failure : ℕ → (List Bool → Bool) → Type 0
    Failure k g = (m : List Bool) × (length m ≡ k) × (g m ≡ false)

    go : (every_layout n (λ k. f (false ∷ k)) ≡ false → Failure n (λ k. f (false ∷ k)))
        → (every_layout n (λ k. f (true ∷ k)) ≡ false → Failure n (λ k. f (true ∷ k)))
        → (every_layout n (λ k. f (false ∷ k)) ≡ false) ⊎ (every_layout n (λ k. f (true ∷ k)) ≡ false) → Failure (suc n) f
    go a b (inl e) = let (m, l, w) = a e in (false ∷ m, ap suc l, w)
    go a b (inr e) = let (m, l, w) = b e in (true ∷ m, ap suc l, w)

-- ---- one cell, which shows v, holds a mine or not, and has k neighbouring mines: the test `agrees` says what `Fits` says of it

agrees_only : (v : ℕ) (mine : Bool) (k : ℕ) → agrees v mine k ≡ true → mine ≡ true → (v ≡ 10) ⊎ (v ≡ 11)
agrees_only v mine k h e = go (decided (leb v 8)) (decided (eqb v 10)) (decided (eqb v 11))
  where
    go : Decided (leb v 8) → Decided (eqb v 10) → Decided (eqb v 11) → (v ≡ 10) ⊎ (v ≡ 11)
    go (inl a) b c = clash true refl (sym (rw (a, e) at h))
    go (inr a) (inl b) c = inl (eqb-true v 10 b)
    go (inr a) (inr b) (inl c) = inr (eqb-true v 11 c)
    go (inr a) (inr b) (inr c) = clash true refl (sym (rw (a, b, c, e) at h))

agrees_known : (v : ℕ) (mine : Bool) (k : ℕ) → agrees v mine k ≡ true → v ≡ 11 → mine ≡ true
agrees_known v true k h e = refl
agrees_known v false k h e = rw e at h

agrees_number : (v : ℕ) (mine : Bool) (k : ℕ) → agrees v mine k ≡ true → v ≤ 8 → k ≡ v
agrees_number v mine k h l = eqb-true k v (and_right (not mine) (eqb k v) (rw (le-leb v 8 l) at h))

agrees_of : (v : ℕ) (mine : Bool) (k : ℕ) → (mine ≡ true → (v ≡ 10) ⊎ (v ≡ 11)) → (v ≡ 11 → mine ≡ true) → (v ≤ 8 → k ≡ v)
    → agrees v mine k ≡ true
agrees_of v mine k only known number = go (decided (leb v 8)) (decided (eqb v 10)) (decided (eqb v 11)) (decided mine)
  where
    neither : (v ≡ 10) ⊎ (v ≡ 11) → v ≢ 10 → v ≢ 11 → ⊥
    neither (inl e) f g = f e
    neither (inr e) f g = g e

    go : Decided (leb v 8) → Decided (eqb v 10) → Decided (eqb v 11) → Decided mine → agrees v mine k ≡ true
    go (inl a) b c (inl d) = absurd (let l : v ≤ 8 = leb-true v 8 a in neither (only d) (omega arith) (omega arith))
    go (inl a) b c (inr d) = rw (a, d) (eq-eqb k v (number (leb-true v 8 a)))
    go (inr a) (inl b) c d = rw (a, b)
    go (inr a) (inr b) (inl c) d = rw (a, b, c, known (eqb-true v 11 c))
    go (inr a) (inr b) (inr c) (inl d) = absurd (neither (only d) (eqb-false v 10 b) (eqb-false v 11 c))
    go (inr a) (inr b) (inr c) (inr d) = rw (a, b, c, d)

-- ---- the whole board

module _ (near : ℕ → List ℕ) (p : List ℕ) where
  -- the test passes at a layout that fits
  pub fits_of : (m : List Bool) → Fits near p m → fits near p m ≡ true
  unfolding fits
  fits_of m f = every_of (length p) (λ c. agrees (shows p c) (mine_at m c) (count (mine_at m) (near c)))
      (λ c l. agrees_of (shows p c) (mine_at m c) (count (mine_at m) (near c)) (f.only c) (f.known c) (f.number c))

  -- a layout as long as the position fits where the test passes
  pub fits_at : (m : List Bool) → length m ≡ length p → fits near p m ≡ true → Fits near p m
  unfolding fits
  fits_at m s h = record {
    sized = s;
    only = λ c. only c (dec_lt c (length p));
    known = λ c. known c (dec_lt c (length p));
    number = λ c. number c (dec_lt c (length p));
  }
    where
      cell : (c : ℕ) → c < length p → agrees (shows p c) (mine_at m c) (count (mine_at m) (near c)) ≡ true
      cell c l = every_at (length p) (λ d. agrees (shows p d) (mine_at m d) (count (mine_at m) (near d))) h c l

      off : (c : ℕ) → ¬ (c < length p) → shows p c ≡ 255
      off c l = get_or-eq_default p 255 (omega arith)

      only : (c : ℕ) → Dec (c < length p) → mine_at m c ≡ true → (shows p c ≡ 10) ⊎ (shows p c ≡ 11)
      only c (yes l) e = agrees_only _ _ _ (cell c l) e
      only c (no l) e = clash (mine_at m c) e (get_or-eq_default m false (omega arith))

      known : (c : ℕ) → Dec (c < length p) → shows p c ≡ 11 → mine_at m c ≡ true
      known c (yes l) e = agrees_known _ _ _ (cell c l) e
      known c (no l) e = absurd (omega (arith, off c l))

      number : (c : ℕ) → Dec (c < length p) → shows p c ≤ 8 → count (mine_at m) (near c) ≡ shows p c
      number c (yes l) e = agrees_number _ (mine_at m c) _ (cell c l) e
      number c (no l) e = absurd (omega (arith, off c l))

  -- ---- the decision

  -- tests of the layouts that fit and pass the test `also`
  module _ (also : List Bool → Bool) where
    -- a test that holds of every such layout holds of each
    pub every_passing : (g : List Bool → Bool) → every_layout (length p) (λ m. not (fits near p m && also m) || g m) ≡ true
        → (m : List Bool) → Fits near p m → also m ≡ true → g m ≡ true
    every_passing g h m f t = rw (fits_of m f, t) at (every_layout_at (length p) (λ k. not (fits near p k && also k) || g k) h m f.sized)

    -- a test that doesn't fails at one
    pub some_passing : (g : List Bool → Bool) → every_layout (length p) (λ m. not (fits near p m && also m) || g m) ≡ false
        → (m : List Bool) × Fits near p m × (also m ≡ true) × (g m ≡ false)
    some_passing g h =
        let (m, s, w) = every_layout_not (length p) _ h in
        let k : (fits near p m && also m) ≡ true = not-false _ (or_false_left _ (g m) w) in
        (m, fits_at m s (and_left _ (also m) k), and_right (fits near p m) _ k, or_false_right (not (fits near p m && also m)) _ w)

    -- true: no such layout has a mine at the cell
    pub free_forced : (c : ℕ) → free_in_every near also p c ≡ true → ForcedAmong near also p c false
    unfolding free_in_every
    free_forced c h m f t = not-true (mine_at m c) (every_passing (λ k. not (mine_at k c)) h m f t)

    -- false: such a layout has a mine at the cell
    pub not_free : (c : ℕ) → free_in_every near also p c ≡ false → (m : List Bool) × Fits near p m × (also m ≡ true) × (mine_at m c ≡ true)
    unfolding free_in_every
    not_free c h = let (m, f, t, x) = some_passing (λ k. not (mine_at k c)) h in (m, f, t, not-false (mine_at m c) x)

    -- a cell with no mine in any such layout passes the test
    pub forced_free : (c : ℕ) → ForcedAmong near also p c false → free_in_every near also p c ≡ true
    forced_free c h = go (decided (free_in_every near also p c))
      where
        go : Decided (free_in_every near also p c) → free_in_every near also p c ≡ true
        go (inl e) = e
        go (inr e) = let (m, f, t, x) = not_free c e in clash (mine_at m c) x (h m f t)
