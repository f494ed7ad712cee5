-- The sources of a position: exactly its open cells with a closed neighbour, none twice. `near`, the neighbours of a cell, is any function here.
-- Assumes nothing.
use mathlib.Core.Path.{◌≡◌}
use mathlib.Core.Bool.{Bool, true, false, not, ◌&&◌}
use mathlib.Core.List.{List}
use Prim.Native.Nat.{ℕ, ◌≤◌, ◌<◌}
use native.Mathlib.Omega.{arith}
use lib.Dec.{leb}
use lib.ListN.{length}
use borrow.Author.Tests.{leb-true, le-leb, not-true}
use Rattle.lists.specs.Lists.{range, empty, has, nodup}
use Rattle.lists.proofs.Tests.{and_left, and_right}
use Rattle.lists.proofs.Members.{kept_passes, kept_has, has_kept, nodup_keep, range_in, in_range, range_nodup}
use Rattle.lists.proofs.Rearranged.{nodup_below}
use Rattle.grid.specs.Cells.{shows}
use Rattle.fitting.proofs.Layouts.{on_board}
use Rattle.sources.specs.Sources.{closed_beside, sources}

-- an open cell on the board with a closed neighbour
pub record Source (near : ℕ → List ℕ) (p : List ℕ) (c : ℕ) : Type 0 where
  pub on_board : c < length p
  pub is_open : shows p c ≤ 8
  pub touches : empty (closed_beside near p c) ≡ false

module _ (near : ℕ → List ℕ) (p : List ℕ) where
  -- the test of `sources`
  touching : ℕ → Bool
  touching c = leb (shows p c) 8 && not (empty (closed_beside near p c))

  -- each listed cell is one
  pub listed_source : (c : ℕ) → has (sources near p) c ≡ true → Source near p c
  unfolding sources touching
  listed_source c h = let t : touching c ≡ true = kept_passes touching (range 0 (length p)) c h in
      record {
        on_board = omega (arith, range_in 0 (length p) c (kept_has touching (range 0 (length p)) c h));
        is_open = leb-true (shows p c) 8 (and_left _ (not (empty (closed_beside near p c))) t);
        touches = not-true _ (and_right (leb (shows p c) 8) _ t);
      }

  -- an open cell with a closed neighbour is listed
  pub source_listed : (c : ℕ) → shows p c ≤ 8 → empty (closed_beside near p c) ≡ false → has (sources near p) c ≡ true
  unfolding sources touching
  source_listed c o e = let below : c < length p = on_board p c (omega arith) in
      has_kept touching (range 0 (length p)) c (rw (le-leb (shows p c) 8 o, e)) (in_range 0 (length p) c (omega arith) (omega arith))

  -- none is listed twice
  pub sources_once : nodup (sources near p) ≡ true
  unfolding sources touching
  sources_once = nodup_keep touching (range 0 (length p)) (range_nodup 0 (length p))

  -- there are at most as many as cells
  pub sources_few : length (sources near p) ≤ length p
  sources_few = nodup_below (length p) (sources near p) sources_once (λ c h. (listed_source c h).on_board)
