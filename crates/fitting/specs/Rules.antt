-- Cited by no public contract. What demand 3 asks of a rule on the board b, at each position that the board's own layout fits. Assumes nothing.
use Rattle.std.specs.Prelude.{◌≡◌, Bool, true, false, List, ℕ, ◌≤◌}
use Rattle.lists.specs.Lists.{has}
use Rattle.grid.specs.Cells.{shows}
use Rattle.fitting.specs.Layouts.{mine_at, Fits, Forced, ForcedAmong}
use Rattle.fitting.specs.Boards.{own}
use Rattle.fitting.specs.Passes.{GradedCells, nothing}

-- what it finds is closed, and the same in every layout that fits
pub record Sound (near : ℕ → List ℕ) (b : List ℕ) (rule : List ℕ → GradedCells) : Type 0 where
  pub safe : (p : List ℕ) → Fits near p (own b) → (c : ℕ) → has (rule p).safe c ≡ true → (shows p c ≡ 10) × Forced near p c false
  pub mines : (p : List ℕ) → Fits near p (own b) → (c : ℕ) → has (rule p).mines c ≡ true → (shows p c ≡ 10) × Forced near p c true

-- where it finds nothing, each closed cell beside an open one has a mine in some layout that fits
pub record Complete (near : ℕ → List ℕ) (b : List ℕ) (rule : List ℕ → GradedCells) : Type 0 where
  pub witness : (p : List ℕ) → Fits near p (own b) → nothing (rule p) ≡ true
      → (c d : ℕ) → shows p c ≡ 10 → shows p d ≤ 8 → has (near d) c ≡ true → (m : List Bool) × Fits near p m × (mine_at m c ≡ true)

-- what it finds is closed, and the same in every layout that fits and passes the test `also`
pub record SoundAmong (near : ℕ → List ℕ) (also : List Bool → Bool) (b : List ℕ) (rule : List ℕ → GradedCells) : Type 0 where
  pub safe : (p : List ℕ) → Fits near p (own b) → (c : ℕ) → has (rule p).safe c ≡ true → (shows p c ≡ 10) × ForcedAmong near also p c false
  pub mines : (p : List ℕ) → Fits near p (own b) → (c : ℕ) → has (rule p).mines c ≡ true → (shows p c ≡ 10) × ForcedAmong near also p c true

-- where it finds nothing, each closed cell, beside an open one or not, has a mine in some layout that fits and passes
pub record CompleteAmong (near : ℕ → List ℕ) (also : List Bool → Bool) (b : List ℕ) (rule : List ℕ → GradedCells) : Type 0 where
  pub witness : (p : List ℕ) → Fits near p (own b) → nothing (rule p) ≡ true
      → (c : ℕ) → shows p c ≡ 10 → (m : List Bool) × Fits near p m × (also m ≡ true) × (mine_at m c ≡ true)
