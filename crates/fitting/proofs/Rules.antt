-- What is sound for every layout that fits is sound for those that pass a test; and a rule that is complete beside the open cells is complete where every
-- layout passes, since there a closed cell beside no open one may have a mine. Of two rules the second is asked where the first finds nothing: they are
-- sound together if both are, and complete if the second is. So of several rules each must be sound and the last complete. Assumes nothing.
use mathlib.Core.Path.{◌≡◌, refl}
use mathlib.Core.Logic.{inl, inr}
use mathlib.Core.Bool.{Bool, true, false, not, ◌&&◌}
use mathlib.Core.List.{List}
use Prim.Native.Nat.{ℕ, ◌≤◌}
use native.Mathlib.Omega.{arith}
use lib.ListN.{length, set}
use lib.Seq.{get_or-set_same}
use lib.Dec.{leb}
use borrow.Author.Tests.{leb-true, le-leb, not-true, not-false}
use Rattle.lists.specs.Lists.{every, has}
use Rattle.lists.proofs.Tests.{Decided, decided, clash, and_left, and_right, every_at, every_not}
use Rattle.grid.specs.Cells.{shows}
use Rattle.fitting.specs.Layouts.{mine_at, Fits, Forced, any_layout, ForcedAmong}
use Rattle.fitting.specs.Boards.{own}
use Rattle.fitting.specs.Passes.{GradedCells, nothing, or_else}
use Rattle.fitting.specs.Rules.{Sound, Complete, SoundAmong, CompleteAmong}
use Rattle.fitting.proofs.Layouts.{on_board, fits_mine}
use Rattle.fitting.proofs.Own.{own_length, fit_on}

-- ---- one rule, and the layouts that pass a test

-- the fewer layouts, the more is the same in all of them
pub sound_among : (near : ℕ → List ℕ) (also : List Bool → Bool) (b : List ℕ) (rule : List ℕ → GradedCells) → Sound near b rule → SoundAmong near also b rule
sound_among near also b rule sound = record {
  safe = λ p f c h. let (e, w) = sound.safe p f c h in (e, λ m g _. w m g);
  mines = λ p f c h. let (e, w) = sound.mines p f c h in (e, λ m g _. w m g);
}

-- where every layout passes, the board's own with a mine put at a closed cell beside no open one is a layout that fits
pub complete_among_any : (near : ℕ → List ℕ) (b : List ℕ) (rule : List ℕ → GradedCells) → Complete near b rule → CompleteAmong near any_layout b rule
complete_among_any near b rule complete = record { witness = λ p fit none c shut. either p fit none c shut (decided (every (length p) (apart p c))) }
  where
    -- the cell d isn't open, or c isn't beside it
    apart : List ℕ → ℕ → ℕ → Bool
    apart p c d = not (leb (shows p d) 8 && has (near d) c)

    lone : (p : List ℕ) (c : ℕ) → every (length p) (apart p c) ≡ true → (d : ℕ) → shows p d ≤ 8 → has (near d) c ≡ false
    lone p c a d o = not-true (has (near d) c) (rw (le-leb (shows p d) 8 o) at (every_at (length p) (apart p c) a d (on_board p d (omega arith))))

    either : (p : List ℕ) → Fits near p (own b) → nothing (rule p) ≡ true → (c : ℕ) → shows p c ≡ 10 → Decided (every (length p) (apart p c))
        → (m : List Bool) × Fits near p m × (any_layout m ≡ true) × (mine_at m c ≡ true)
    either p fit none c shut (inl a) = (
      set (own b) c true,
      fits_mine near p (own b) fit c shut (lone p c a),
      refl,
      get_or-set_same (own b) c true false (rw (own_length b) (fit_on near b p fit c (omega arith))),
    )
    either p fit none c shut (inr a) =
        let (d, k, y) = every_not (length p) (apart p c) a in
        let z : (leb (shows p d) 8 && has (near d) c) ≡ true = not-false _ y in
        let (m, f, x) = complete.witness p fit none c d shut (leb-true (shows p d) 8 (and_left _ _ z)) (and_right (leb (shows p d) 8) _ z) in
        (m, f, refl, x)

-- ---- two rules

-- the answer is that of one of the two
chosen : (Claim : GradedCells → Type 0) (rule other : List ℕ → GradedCells) (p : List ℕ) → Claim (rule p) → Claim (other p) → Claim (or_else rule other p)
unfolding or_else
chosen Claim rule other p x y = go (decided (nothing (rule p)))
  where
    go : Decided (nothing (rule p)) → Claim (or_else rule other p)
    go (inl e) = rw (e, or_else) y
    go (inr e) = rw (e, or_else) x

-- where it is nothing, the second found nothing
second_nothing : (rule other : List ℕ → GradedCells) (p : List ℕ) → nothing (or_else rule other p) ≡ true → nothing (other p) ≡ true
unfolding or_else
second_nothing rule other p n = go (decided (nothing (rule p)))
  where
    go : Decided (nothing (rule p)) → nothing (other p) ≡ true
    go (inl e) = rw (e, or_else) at n
    go (inr e) = clash (nothing (rule p)) (rw (e, or_else) at n) e

-- sound, if both are
pub sound_or_else : (near : ℕ → List ℕ) (b : List ℕ) (rule other : List ℕ → GradedCells)
    → Sound near b rule → Sound near b other → Sound near b (or_else rule other)
sound_or_else near b rule other x y = record {
  safe = λ p f c. chosen (λ g. has g.safe c ≡ true → (shows p c ≡ 10) × Forced near p c false) rule other p (x.safe p f c) (y.safe p f c);
  mines = λ p f c. chosen (λ g. has g.mines c ≡ true → (shows p c ≡ 10) × Forced near p c true) rule other p (x.mines p f c) (y.mines p f c);
}

pub sound_among_or_else : (near : ℕ → List ℕ) (also : List Bool → Bool) (b : List ℕ) (rule other : List ℕ → GradedCells)
    → SoundAmong near also b rule → SoundAmong near also b other → SoundAmong near also b (or_else rule other)
sound_among_or_else near also b rule other x y = record {
  safe = λ p f c. chosen (λ g. has g.safe c ≡ true → (shows p c ≡ 10) × ForcedAmong near also p c false) rule other p (x.safe p f c) (y.safe p f c);
  mines = λ p f c. chosen (λ g. has g.mines c ≡ true → (shows p c ≡ 10) × ForcedAmong near also p c true) rule other p (x.mines p f c) (y.mines p f c);
}

-- complete, if the second is
pub complete_or_else : (near : ℕ → List ℕ) (b : List ℕ) (rule other : List ℕ → GradedCells) → Complete near b other → Complete near b (or_else rule other)
complete_or_else near b rule other complete = record { witness = λ p f n. complete.witness p f (second_nothing rule other p n) }

pub complete_among_or_else : (near : ℕ → List ℕ) (also : List Bool → Bool) (b : List ℕ) (rule other : List ℕ → GradedCells)
    → CompleteAmong near also b other → CompleteAmong near also b (or_else rule other)
complete_among_or_else near also b rule other complete = record { witness = λ p f n. complete.witness p f (second_nothing rule other p n) }
