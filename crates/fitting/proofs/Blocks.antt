-- A block of equations may be solved apart: equations of different blocks share no closed cell, so a solution of one block and any layout that fits, put
-- together, fit. Blocks are numbers of the open cells, and all that is asked of the numbers is that open cells with a common closed neighbour have the
-- same. So what is forced in a block is forced, and what is possible in a block is possible. Rests on Frontier. Assumes nothing.
use mathlib.Core.Path.{◌≡◌, refl, sym, ◌∙◌}
use mathlib.Core.Logic.{◌⊎◌, inl, inr, ◌≢◌}
use mathlib.Core.Bool.{Bool, true, false, not, cond, ◌&&◌}
use mathlib.Core.List.{List}
use Prim.Native.Nat.{ℕ, ◌≤◌}
use native.Mathlib.Omega.{arith}
use lib.ListN.{length}
use lib.Dec.{leb, eqb}
use borrow.Author.Tests.{eqb-true, eqb-false, eq-eqb, leb-true, le-leb, not-false}
use Rattle.lists.specs.Lists.{every, keep, has, empty}
use Rattle.lists.proofs.Tests.{Decided, decided, clash, and_left, and_right, every_at, every_not}
use Rattle.lists.proofs.Members.{empty_none, kept_passes}
use Rattle.lists.proofs.Counts.{count_ext}
use Rattle.grid.specs.Cells.{shows}
use Rattle.fitting.specs.Layouts.{mine_at, Fits, Forced}
use Rattle.fitting.specs.Equations.{Equation, Holds, is_closed, equation_at}
use Rattle.fitting.proofs.Layouts.{on_board}
use Rattle.fitting.proofs.Equations.{Solution}
use Rattle.fitting.proofs.Frontier.{layout_of, layout_at, fits_holds, holds_fits}

module _ (near : ℕ → List ℕ) (p : List ℕ) where
  -- the closed neighbours of a cell
  abbrev pub closed_near : ℕ → List ℕ
  closed_near d = keep (is_closed p) (near d)

  -- a test answers v at each closed neighbour of a cell
  abbrev pub Around : (ℕ → Bool) → ℕ → Bool → Type 0
  Around test d v = (c : ℕ) → has (closed_near d) c ≡ true → test c ≡ v

  -- a test tells some closed cells from the rest, and no equation has both kinds: then what solves the equations of the first kind, with any layout that
  -- fits for the rest, gives a layout that fits
  pub part_fits : (inside : ℕ → Bool) (m : List Bool) → Fits near p m → (g : ℕ → Bool)
      → ((d : ℕ) → shows p d ≤ 8 → (Around inside d true × Holds g (equation_at near p d)) ⊎ Around inside d false)
      → Fits near p (layout_of p (λ c. cond (inside c) (g c) (mine_at m c)))
  part_fits inside m f g h = holds_fits near p joined (λ d o. go d o (h d o))
    where
      joined : ℕ → Bool
      joined c = cond (inside c) (g c) (mine_at m c)

      go : (d : ℕ) → shows p d ≤ 8 → (Around inside d true × Holds g (equation_at near p d)) ⊎ Around inside d false → Holds joined (equation_at near p d)
      go d o (inl (a, k)) = rw (count_ext joined g (closed_near d) (λ c e. rw (a c e))) k
      go d o (inr a) = rw (count_ext joined (mine_at m) (closed_near d) (λ c e. rw (a c e))) (fits_holds near p m f d o)

  -- a solution of each block, put together, gives a layout that fits; `of` numbers the open cells, and `block` the closed ones
  pub blocks_fit : (of block : ℕ → ℕ) → ((d c : ℕ) → shows p d ≤ 8 → has (closed_near d) c ≡ true → block c ≡ of d)
      → (solution : ℕ → ℕ → Bool) → ((d : ℕ) → shows p d ≤ 8 → Holds (solution (of d)) (equation_at near p d))
      → Fits near p (layout_of p (λ c. solution (block c) c))
  blocks_fit of block same solution h = holds_fits near p (λ c. solution (block c) c)
      (λ d o. rw (count_ext (λ c. solution (block c) c) (solution (of d)) (closed_near d) (λ c e. rw (same d c o e))) (h d o))

  -- ---- one block, the k-th

  module _ (block : ℕ → ℕ) (k : ℕ) where
    -- the open cells of the block that have a closed neighbour, and their equations
    abbrev pub InBlock : Type 0
    InBlock = (d : ℕ) × (shows p d ≤ 8) × (empty (closed_near d) ≡ false) × (block d ≡ k)

    abbrev pub block_equation : InBlock → Equation
    block_equation i = equation_at near p i.0

    -- a cell that is the same in every solution of the block is forced
    pub block_forced : (c : ℕ) (v : Bool) → ((g : ℕ → Bool) → Solution block_equation g → g c ≡ v) → Forced near p c v
    block_forced c v h m f = h (mine_at m) (λ i. fits_holds near p m f i.0 i.1)

    -- the open cell d isn't of the block, or c is no closed neighbour of it
    apart : ℕ → ℕ → Bool
    apart c d = not (leb (shows p d) 8 && (eqb (block d) k && has (closed_near d) c))

    -- c is a closed cell of the block
    of_block : ℕ → Bool
    of_block c = not (every (length p) (apart c))

    -- a closed neighbour of an open cell of the block is of the block
    in_block : (d c : ℕ) → shows p d ≤ 8 → block d ≡ k → has (closed_near d) c ≡ true → of_block c ≡ true
    unfolding of_block apart
    in_block d c o e h = go (decided (every (length p) (apart c)))
      where
        go : Decided (every (length p) (apart c)) → of_block c ≡ true
        go (inr x) = rw x
        go (inl x) =
            let fails = every_at (length p) (apart c) x d (on_board p d (omega arith)) in
            clash true refl (sym (rw (le-leb (shows p d) 8 o, eq-eqb (block d) k e, h) at fails))

    -- open cells with a common closed neighbour are of one block
    module _ (share : (d e c : ℕ) → shows p d ≤ 8 → shows p e ≤ 8 → has (closed_near d) c ≡ true → has (closed_near e) c ≡ true → block d ≡ block e) where
      -- a closed neighbour of an open cell of another block is not
      not_in_block : (d c : ℕ) → shows p d ≤ 8 → block d ≢ k → has (closed_near d) c ≡ true → of_block c ≡ false
      unfolding of_block apart
      not_in_block d c o n h = go (decided (every (length p) (apart c)))
        where
          go : Decided (every (length p) (apart c)) → of_block c ≡ false
          go (inl x) = rw x
          go (inr x) =
              let (e, l, w) = every_not (length p) (apart c) x in
              let z : (leb (shows p e) 8 && (eqb (block e) k && has (closed_near e) c)) ≡ true = not-false _ w in
              let y : (eqb (block e) k && has (closed_near e) c) ≡ true = and_right (leb (shows p e) 8) _ z in
              let o_e : shows p e ≤ 8 = leb-true (shows p e) 8 (and_left _ (eqb (block e) k && has (closed_near e) c) z) in
              absurd (n (share d e c o o_e h (and_right (eqb (block e) k) _ y) ∙ eqb-true (block e) k (and_left _ (has (closed_near e) c) y)))

      -- what a solution of the block has at a closed cell of the block, some layout that fits has there
      pub block_free : (m : List Bool) → Fits near p m → (g : ℕ → Bool) → Solution block_equation g
          → (d c : ℕ) → shows p d ≤ 8 → block d ≡ k → has (closed_near d) c ≡ true → (w : List Bool) × Fits near p w × (mine_at w c ≡ g c)
      block_free m f g s d c o e h = (
        layout_of p joined,
        part_fits of_block m f g (λ a l. side a l (decided (eqb (block a) k)) (decided (empty (closed_near a)))),
        layout_at p joined c ∙ rw (kept_passes (is_closed p) (near d) c h, in_block d c o e h),
      )
        where
          joined : ℕ → Bool
          joined x = cond (of_block x) (g x) (mine_at m x)

          side : (a : ℕ) → shows p a ≤ 8 → Decided (eqb (block a) k) → Decided (empty (closed_near a))
              → (Around of_block a true × Holds g (equation_at near p a)) ⊎ Around of_block a false
          side a l t (inl u) = inr (λ x v. clash (has (closed_near a) x) v (empty_none (closed_near a) u x))
          side a l (inl t) (inr u) = inl (λ x v. in_block a x l (eqb-true (block a) k t) v, s (a, l, u, eqb-true (block a) k t))
          side a l (inr t) (inr u) = inr (λ x v. not_in_block a x l (eqb-false (block a) k t) v)
