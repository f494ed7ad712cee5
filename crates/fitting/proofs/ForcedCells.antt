-- The rule that finds each closed cell that is the same in every layout that fits and passes a test. Its lists have these cells and no others, so that it is
-- sound and complete for these layouts. So what is asked of a rule can be met, and demand 3 can: some answer meets it for every accepted board, safe start,
-- and test that the board's own layout passes. Rests on Decision and Passes. Assumes nothing.
use mathlib.Core.Path.{◌≡◌}
use mathlib.Core.Logic.{inl, inr, ◌≢◌, ◌↔◌}
use mathlib.Core.Bool.{Bool, true, false, ◌&&◌}
use mathlib.Core.List.{List}
use Prim.Native.Nat.{ℕ, ◌<◌}
use native.Mathlib.Omega.{arith}
use lib.ListN.{length}
use borrow.Author.Tests.{eqb-true, eq-eqb}
use Rattle.lists.specs.Lists.{range, keep, has, empty}
use Rattle.lists.proofs.Tests.{Decided, decided, clash, and_left, and_right}
use Rattle.lists.proofs.Members.{empty_none, has_kept, kept_passes, in_range}
use Rattle.grid.specs.Cells.{cell_of, shows}
use Rattle.fitting.specs.Layouts.{mine_at, ForcedAmong, free_in_every}
use Rattle.fitting.specs.Boards.{own, Accepted}
use Rattle.fitting.specs.Demand.{picture, opened, Demand3Among}
use Rattle.fitting.specs.Equations.{is_closed}
use Rattle.fitting.specs.Passes.{nothing, judge}
use Rattle.fitting.specs.Rules.{SoundAmong, CompleteAmong}
use Rattle.fitting.specs.ForcedCells.{mined_in_every, forced_cells}
use Rattle.fitting.proofs.Layouts.{on_board}
use Rattle.fitting.proofs.Decision.{every_passing, some_passing, free_forced, not_free, forced_free}
use Rattle.fitting.proofs.Passes.{judge_demand_3_among}

-- a list of the closed cells that pass a test has these cells and no others
closed_kept : (p : List ℕ) (g : ℕ → Bool) (c : ℕ)
    → (has (keep (λ d. is_closed p d && g d) (range 0 (length p))) c ≡ true) ↔ ((shows p c ≡ 10) × (g c ≡ true))
closed_kept p g c = (kept, listed)
  where
    kept : has (keep (λ d. is_closed p d && g d) (range 0 (length p))) c ≡ true → (shows p c ≡ 10) × (g c ≡ true)
    kept h =
        let k = kept_passes (λ d. is_closed p d && g d) (range 0 (length p)) c h in
        (eqb-true (shows p c) 10 (and_left _ (g c) k), and_right (is_closed p c) _ k)

    listed : (shows p c ≡ 10) × (g c ≡ true) → has (keep (λ d. is_closed p d && g d) (range 0 (length p))) c ≡ true
    listed (shut, x) =
        has_kept (λ d. is_closed p d && g d) (range 0 (length p)) c (rw (eq-eqb (shows p c) 10 shut, x))
        (in_range 0 (length p) c (omega arith) (omega (arith, on_board p c (omega arith))))

module _ (near : ℕ → List ℕ) (also : List Bool → Bool) where
  -- the test `mined_in_every` passes exactly at the cells that are mines in every layout that fits and passes
  pub mined_forced : (p : List ℕ) (c : ℕ) → mined_in_every near also p c ≡ true → ForcedAmong near also p c true
  unfolding mined_in_every
  mined_forced p c h = every_passing near p also (λ m. mine_at m c) h

  pub forced_mined : (p : List ℕ) (c : ℕ) → ForcedAmong near also p c true → mined_in_every near also p c ≡ true
  unfolding mined_in_every
  forced_mined p c h = go (decided (mined_in_every near also p c))
    where
      go : Decided (mined_in_every near also p c) → mined_in_every near also p c ≡ true
      go (inl e) = e
      go (inr e) = let (m, f, t, x) = some_passing near p also (λ k. mine_at k c) e in clash (mine_at m c) (h m f t) x

  module _ (grade : ℕ) where
    -- the lists have each closed cell that is the same in every layout that fits and passes, on or off the frontier, and no other cell
    pub forced_cells_safe : (p : List ℕ) (c : ℕ)
        → (has (forced_cells near also grade p).safe c ≡ true) ↔ ((shows p c ≡ 10) × ForcedAmong near also p c false)
    unfolding forced_cells
    forced_cells_safe p c =
        let kept = closed_kept p (free_in_every near also p) c in
        (λ h. let (shut, x) = kept.0 h in (shut, free_forced near p also c x), λ h. let (shut, x) = h in kept.1 (shut, forced_free near p also c x))

    pub forced_cells_mines : (p : List ℕ) (c : ℕ)
        → (has (forced_cells near also grade p).mines c ≡ true) ↔ ((shows p c ≡ 10) × ForcedAmong near also p c true)
    unfolding forced_cells
    forced_cells_mines p c =
        let kept = closed_kept p (mined_in_every near also p) c in
        (λ h. let (shut, x) = kept.0 h in (shut, mined_forced p c x), λ h. let (shut, x) = h in kept.1 (shut, forced_mined p c x))

    -- it is sound
    pub forced_cells_sound : (b : List ℕ) → SoundAmong near also b (forced_cells near also grade)
    forced_cells_sound b = record { safe = λ p f c. (forced_cells_safe p c).0; mines = λ p f c. (forced_cells_mines p c).0 }

    -- it is complete: a closed cell that it leaves out has a mine in some layout that fits and passes
    pub forced_cells_complete : (b : List ℕ) → CompleteAmong near also b (forced_cells near also grade)
    forced_cells_complete b = record { witness = λ p f n c shut. not_free near p also c (left_out p c shut n (decided (free_in_every near also p c))) }
      where
        left_out : (p : List ℕ) (c : ℕ) → shows p c ≡ 10 → nothing (forced_cells near also grade p) ≡ true
            → Decided (free_in_every near also p c) → free_in_every near also p c ≡ false
        left_out p c shut n (inr x) = x
        left_out p c shut n (inl x) =
            clash (has (forced_cells near also grade p).safe c) ((forced_cells_safe p c).1 (shut, free_forced near p also c x))
            (empty_none (forced_cells near also grade p).safe (and_left _ (empty (forced_cells near also grade p).mines) n) c)

    -- demand 3 can be met
    pub forced_cells_demand_3 : (b : List ℕ) (s : ℕ) → Accepted near b → also (own b) ≡ true → s < length b → cell_of b s ≢ 255
        → Demand3Among near also b s (judge near b (forced_cells near also grade) s).yes (opened (judge near b (forced_cells near also grade) s).position)
        (picture (judge near b (forced_cells near also grade) s).position)
    forced_cells_demand_3 b s ok own_passes l n =
        judge_demand_3_among near also b (forced_cells near also grade) s ok own_passes l n (forced_cells_sound b) (forced_cells_complete b)
