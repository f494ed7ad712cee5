-- What the list of sources tells once a position is read: it has exactly the sources, which are open cells of the board, in an array with a count. Rests on
-- ReadSlots. Assumes nothing.
use mathlib.Core.Path.{◌≡◌, sym, ap, ◌∙◌}
use mathlib.Core.Bool.{Bool, true, ◌&&◌}
use mathlib.Core.List.{List}
use Prim.Native.Nat.{ℕ, ◌*◌}
use native.Mathlib.Omega.{arith}
use lib.Dec.{leb, ltb}
use lib.ListN.{take}
use borrow.Author.Tests.{lt-ltb, ltb-true}
use Rattle.lists.specs.Lists.{keep, range, all}
use Rattle.lists.proofs.Tests.{and_left, and_right}
use Rattle.lists.proofs.All.{all_implied}
use Rattle.grid.specs.Cells.{shows}
use Rattle.grid.proofs.Places.{few_cells}
use Rattle.grid.specs.Window.{neighbours, Board}
use Rattle.sources.specs.Sources.{is_source, sources}
use Rattle.sources.specs.Reading.{Read, Cells}
use Rattle.sources.proofs.SourceLaws.{source_below}
use Rattle.sources.proofs.ReadSlots.{all_read}

module _ (edgeless : Bool) {rows columns : ℕ} {p beside list : List ℕ} {len : ℕ} (board : Board p rows columns)
    (read : Read (neighbours edgeless rows columns) p (rows * columns) beside list len) where
  abbrev near : ℕ → List ℕ
  near = neighbours edgeless rows columns

  -- a source of the board
  abbrev is_read : ℕ → Bool
  is_read = source_below near p (rows * columns)

  -- sources of the board are open cells of it
  pub all_open_lem : (l : List ℕ) → all is_read l ≡ true → all (λ c. ltb c (rows * columns) && leb (shows p c) 8) l ≡ true
  all_open_lem l h = all_implied is_read (λ c. ltb c (rows * columns) && leb (shows p c) 8) l one h
    where
      one : (c : ℕ) → is_read c ≡ true → (ltb c (rows * columns) && leb (shows p c) 8) ≡ true
      one c e = rw (
        and_left (ltb c (rows * columns)) (is_source near p c) e,
        and_left (leb (shows p c) 8) _ (and_right (ltb c (rows * columns)) (is_source near p c) e),
      )

  pub sources_listed : take len list ≡ sources near p
  unfolding sources
  sources_listed = read.listed ∙ ap (λ (m : ℕ). keep (is_source near p) (range 0 m)) (sym board.whole)

  pub all_listed : all is_read (take len list) ≡ true
  all_listed = rw sources_listed (all_read edgeless board read)

  -- they are cells, in an array with a count
  pub listed_cells : Cells list len
  listed_cells = record {
    long = read.long;
    few = omega (arith, read.few, few_cells board.sized);
    on_board = all_implied is_read (λ d. ltb d 1024) (take len list) on_board all_listed;
  }
    where
      on_board : (c : ℕ) → is_read c ≡ true → ltb c 1024 ≡ true
      on_board c h =
          let below = ltb-true c (rows * columns) (and_left (ltb c (rows * columns)) (is_source near p c) h) in
          lt-ltb c 1024 (omega (arith, few_cells board.sized))
