-- 32 rows of 32 cells that are filled in reading order, where the board is, and are 255 elsewhere: what the two loops of `lay` have done at each turn, and
-- that rows filled to the end are the board laid out. Assumes nothing.
use mathlib.Core.Path.{◌≡◌, refl, sym, ap, ◌∙◌}
use mathlib.Core.List.{List, []}
use Prim.Native.Nat.{ℕ, ◌+◌, ◌*◌, ◌≤◌, ◌<◌}
use native.Mathlib.Decide.{ℕ_discrete, dec_lt}
use native.Mathlib.Omega.{arith}
use lib.ListN.{length, get_or, set, replicate, length-set, get_or-replicate}
use lib.Seq.{get_or-set_same, get_or-set_other}
use Rattle.grid.specs.Cells.{cell_of}
use Rattle.patterns.specs.Shapes.{mine_mark, among_mines}
use Rattle.patterns.specs.Walk.{cell_at, Laid}
use Rattle.patterns.proofs.FramedBoard.{below, after, among_mines_on, among_mines_off}

-- ---- rows of cells

pub record Square (g : List (List ℕ)) : Type 0 where
  pub tall : length g ≡ 32
  pub wide : (a : ℕ) → a < 32 → length (get_or g a []) ≡ 32

square_start : (v : ℕ) → Square (replicate 32 (replicate 32 v))
square_start v = record { tall = refl; wide = λ a h. ap length (get_or-replicate {A = List ℕ} 32 a (replicate {A = ℕ} 32 v) [] h) }

start_cell : (v a b : ℕ) → a < 32 → b < 32 → cell_at (replicate 32 (replicate 32 v)) a b ≡ v
start_cell v a b h k =
    ap (λ (r : List ℕ). get_or r b 0) (get_or-replicate {A = List ℕ} 32 a (replicate {A = ℕ} 32 v) [] h) ∙ get_or-replicate {A = ℕ} 32 b v 0 k

-- ---- the two loops

-- the board's rows before i are filled, row i is up to column j, and off the board stands 255
pub record Filled (rows columns : ℕ) (cells : List ℕ) (i j : ℕ) (g : List (List ℕ)) : Type 0 where
  pub square : Square g
  pub off : (a b : ℕ) → a < 32 → b < 32 → (a < rows → b < columns → ⊥) → cell_at g a b ≡ 255
  pub above : (a b : ℕ) → a < i → b < columns → cell_at g a b ≡ mine_mark (cell_of cells (a * columns + b))
  pub left : (b : ℕ) → b < j → cell_at g i b ≡ mine_mark (cell_of cells (i * columns + b))

module _ (rows columns : ℕ) (cells : List ℕ) where
  pub filled_start : Filled rows columns cells 0 0 (replicate 32 (replicate 32 255))
  filled_start =
      record {
        square = square_start 255;
        off = λ a b h k _. start_cell 255 a b h k;
        above = λ a b h k. absurd (omega arith);
        left = λ b h. absurd (omega arith);
      }

  -- ---- all rows are filled

  pub filled_laid : (g : List (List ℕ)) (i : ℕ) → rows ≤ i → Filled rows columns cells i 0 g → Laid rows columns cells g
  filled_laid g i h f = record { cells = λ a b ha hb. go a b ha hb (dec_lt a rows) (dec_lt b columns) }
    where
      go : (a b : ℕ) → a < 32 → b < 32 → Dec (a < rows) → Dec (b < columns) → cell_at g a b ≡ among_mines rows columns cells (a + 1) (b + 1)
      go a b ha hb (yes r) (yes c) = f.above a b (omega arith) c ∙ sym (among_mines_on rows columns cells a b r c)
      go a b ha hb (yes r) (no c) = f.off a b ha hb (λ p q. c q) ∙ sym (among_mines_off rows columns cells (a + 1) (b + 1) (after rows columns (a + 1) (b + 1) (omega arith)))
      go a b ha hb (no r) _ = f.off a b ha hb (λ p q. r p) ∙ sym (among_mines_off rows columns cells (a + 1) (b + 1) (below rows columns (a + 1) (b + 1) (omega arith)))
