-- Which cells are sources, by what the neighbour window tells, and the turns of reading them: a cell that is no source leaves everything as it is, and one
-- that is goes to the end of the list, its closed neighbours to its slots. Rests on the laws of the neighbours, of what is kept, and of slots. Assumes nothing.
use mathlib.Core.Path.{◌≡◌, refl, sym, ap, ◌∙◌}
use mathlib.Core.Logic.{◌≢◌, inl, inr}
use mathlib.Core.Bool.{Bool, true, false, not, cond, ◌&&◌}
use mathlib.Core.List.{List, [], ◌∷◌, ◌++◌}
use Prim.Native.Nat.{ℕ, ◌+◌, ◌*◌, ◌≤◌, ◌<◌}
use native.Mathlib.Numerals.{add-one}
use native.Mathlib.Omega.{arith}
use lib.Dec.{leb, ltb, eqb}
use lib.ListN.{length, get_or, set, replicate, length-set, length-replicate}
use lib.Seq.{sets, length-sets, take-suc-set}
use borrow.Author.Tests.{ltb-true, lt-ltb, le-ltb, le-leb, lt-leb, eqb-true, eqb-false}
use Rattle.lists.specs.Lists.{keep, any, all, empty, has, pad}
use Rattle.lists.proofs.Tests.{Decided, decided, same_test}
use Rattle.lists.proofs.Elements.{get_d_any}
use Rattle.lists.proofs.Arrays.{pad_take}
use Rattle.lists.proofs.Kept.{keep_ext, any_ext, some_kept, keep_range_push, keep_range_pass}
use Rattle.lists.proofs.All.{all_keep, has_all}
use Rattle.lists.proofs.Collected.{keep_few}
use Rattle.grid.specs.Cells.{cell_of, shows}
use Rattle.grid.proofs.Places.{few_cells}
use Rattle.grid.specs.Window.{neighbours, listed, Board, On}
use Rattle.grid.specs.declared.window.UpToEight.{UpToEight}
use Rattle.grid.proofs.Neighbours.{neighbours_on, neighbours_few, cell_on}
use Rattle.fitting.specs.Equations.{is_closed}
use Rattle.blocks.specs.BlockSets.{slot_cells}
use Rattle.blocks.specs.Places.{cells_in}
use Rattle.blocks.proofs.SlotLaws.{slots_filled, put_there, put_elsewhere}
use Rattle.sources.specs.Sources.{closed_beside, is_source}
use Rattle.sources.specs.Reading.{Read}

-- ---- one cell more is read

and_no : (a : Bool) → (a && false) ≡ false
and_no true = refl
and_no false = refl

below_other : (n d : ℕ) → d ≢ n → ltb d (n + 1) ≡ ltb d n
below_other n d other =
    same_test (ltb d (n + 1)) (ltb d n) (λ h. lt-ltb d n (omega (arith, ltb-true d (n + 1) h))) (λ h. lt-ltb d (n + 1) (omega (arith, ltb-true d n h)))

-- c is a source, and among the cells below n
abbrev pub source_below : (ℕ → List ℕ) → List ℕ → ℕ → ℕ → Bool
source_below near p n c = ltb c n && is_source near p c

-- what the slots at place c hold when the cells below n are read
abbrev held_below : (ℕ → List ℕ) → List ℕ → ℕ → ℕ → List ℕ
held_below near p n c = cond (source_below near p n c) (closed_beside near p c) []

-- nothing is read yet
pub read_none : (near : ℕ → List ℕ) (p list : List ℕ) → length list ≡ 1024 → Read near p 0 (replicate 8192 65535) list 0
read_none near p list long =
    record {
      wide = length-replicate {A = ℕ} 8192 65535;
      long = long;
      listed = refl;
      few = omega arith;
      beside = λ d u. slots_filled 8192 d ∙ rw (le-ltb d 0 (omega arith));
    }

module _ (near : ℕ → List ℕ) (p : List ℕ) (n : ℕ) where
  held_other : (d : ℕ) → d ≢ n → held_below near p n d ≡ held_below near p (n + 1) d
  held_other d other = rw (below_other n d other)

  -- a cell that is no source holds nothing, before and after
  held_pass : (d : ℕ) → is_source near p n ≡ false → held_below near p n d ≡ held_below near p (n + 1) d
  held_pass d h = go (decided (eqb d n))
    where
      go : Decided (eqb d n) → held_below near p n d ≡ held_below near p (n + 1) d
      go (inl e) = rw (eqb-true d n e, h, and_no (ltb n n), and_no (ltb n (n + 1)))
      go (inr e) = held_other d (eqb-false d n e)

module _ {near : ℕ → List ℕ} {p : List ℕ} {n : ℕ} {slots list : List ℕ} {len : ℕ} (read : Read near p n slots list len) where
  pub read_pass : is_source near p n ≡ false → Read near p (n + 1) slots list len
  read_pass h =
      record {
        wide = read.wide;
        long = read.long;
        listed = read.listed ∙ sym (keep_range_pass (is_source near p) n h);
        few = omega (arith, read.few);
        beside = λ d u. read.beside d u ∙ held_pass near p n d h;
      }

  pub read_push : is_source near p n ≡ true → n < 1024 → length (closed_beside near p n) ≤ 8 → all (λ d. ltb d 1024) (closed_beside near p n) ≡ true
      → Read near p (n + 1) (sets slots (n * 8) (pad 8 65535 (closed_beside near p n))) (set list len n) (len + 1)
  read_push h below few on =
      record {
        wide = length-sets slots (n * 8) (pad 8 65535 (closed_beside near p n)) ∙ read.wide;
        long = length-set list len n ∙ read.long;
        listed = rw (add-one len) (take-suc-set list len n (omega (arith, read.few, read.long)))
            ∙ ap (λ (l : List ℕ). l ++ (n ∷ [])) read.listed
            ∙ sym (keep_range_push (is_source near p) n h);
        few = omega (arith, read.few);
        beside = λ d u. go d u (decided (eqb d n));
      }
    where
      go : (d : ℕ) → d < 1024 → Decided (eqb d n) → slot_cells (sets slots (n * 8) (pad 8 65535 (closed_beside near p n))) d ≡ held_below near p (n + 1) d
      go d u (inl e) =
          rw (eqb-true d n e, lt-ltb n (n + 1) (omega arith), h) (put_there slots (closed_beside near p n) n read.wide below few on)
      go d u (inr e) =
          put_elsewhere slots (closed_beside near p n) n read.wide below few d (eqb-false d n e) ∙ read.beside d u ∙ held_other near p n d (eqb-false d n e)

-- ---- on a board

module _ (edgeless : Bool) {rows columns : ℕ} {p : List ℕ} (board : Board p rows columns) where
  abbrev near : ℕ → List ℕ
  near = neighbours edgeless rows columns

  -- closed, by the list itself
  abbrev closed_there : ℕ → Bool
  closed_there d = eqb (cell_of p d) 10

  module _ (c : ℕ) where
    -- the closed neighbours of any cell are on the board
    pub closed_on : all (λ d. ltb d 1024) (closed_beside near p c) ≡ true
    closed_on =
        all_keep (λ d. ltb d 1024) (is_closed p) (near c)
        (has_all (λ d. ltb d 1024) (near c)
        (λ d h. lt-ltb d 1024 (omega (arith, neighbours_on edgeless rows columns c d h, few_cells board.sized))))

    -- a neighbour shows what the list has at it
    neighbour_closed : (d : ℕ) → has (near c) d ≡ true → closed_there d ≡ is_closed p d
    neighbour_closed d h = ap (λ (v : ℕ). eqb v 10) (get_d_any p d 0 255 (omega (arith, neighbours_on edgeless rows columns c d h, board.whole)))

    closed_kept : keep closed_there (near c) ≡ closed_beside near p c
    closed_kept = keep_ext closed_there (is_closed p) (near c) neighbour_closed

    closed_some : any closed_there (near c) ≡ not (empty (closed_beside near p c))
    closed_some = any_ext closed_there (is_closed p) (near c) neighbour_closed ∙ sym (some_kept (is_closed p) (near c))

  -- the cell of a row and a column, which the code calls c
  module _ {row column c : ℕ} (on : On rows columns row column) (is : c ≡ row * columns + column) where
    abbrev cell : ℕ
    cell = row * columns + column

    shown_there : get_or p c 0 ≡ shows p cell
    shown_there = rw is (get_d_any p cell 0 255 (omega (arith, cell_on rows columns row column board.sized on, board.whole)))

    pub not_open : 8 < get_or p c 0 → is_source near p cell ≡ false
    not_open h = rw (lt-leb (shows p cell) 8 (omega (arith, shown_there)))

    -- t tells whether a neighbour is closed
    module _ {t : Bool} (told : t ≡ any closed_there (near cell)) where
      pub none_closed : t ≡ false → is_source near p cell ≡ false
      none_closed h = rw (sym (closed_some cell) ∙ sym told ∙ h) (and_no (leb (shows p cell) 8))

      pub is_source_lem : get_or p c 0 ≤ 8 → t ≡ true → is_source near p cell ≡ true
      is_source_lem u h = rw (le-leb (shows p cell) 8 (omega (arith, shown_there)), sym (closed_some cell) ∙ sym told ∙ h)

    -- the closed neighbours as the code lists them
    module _ {list : UpToEight} (told : list ≡ listed (keep closed_there (near cell))) where
      pub listed_few : list.len ≤ 8
      listed_few = rw told (keep_few closed_there (near cell) (neighbours_few edgeless rows columns cell))

      listed_closed : cells_in list ≡ closed_beside near p cell
      listed_closed = rw told (pad_take 8 0 (keep closed_there (near cell)) ∙ closed_kept cell)

      pub read_source : {slots sources : List ℕ} {len : ℕ} → Read near p cell slots sources len → is_source near p cell ≡ true
          → {slots' : List ℕ} → slots' ≡ sets slots (c * 8) (pad 8 65535 (cells_in list)) → Read near p (cell + 1) slots' (set sources len c) (len + 1)
      read_source read h put =
          let small = cell_on rows columns row column board.sized on in
          let few = keep_few (is_closed p) (near cell) (neighbours_few edgeless rows columns cell) in
          rw (put, listed_closed, is) (read_push read h (omega (arith, small)) few (closed_on cell))
