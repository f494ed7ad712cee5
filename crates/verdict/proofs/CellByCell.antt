-- The loops that go through the cells of a board. All safe cells are open if each cell passed was a mine or open; and showing what is open, and 10 for what is not,
-- and counting what is open, cell by cell, leads to the picture and to the number of its open cells. Assumes nothing.
use mathlib.Core.Path.{◌≡◌, refl, sym, ap, ◌∙◌}
use mathlib.Core.Logic.{◌≢◌}
use mathlib.Core.Bool.{Bool, true, false, cond, ◌||◌}
use mathlib.Core.List.{List, [], ◌∷◌, ◌++◌, map-append}
use Prim.Native.Nat.{ℕ, ◌+◌, ◌≤◌, ◌<◌}
use native.Mathlib.Numerals.{add-one}
use native.Mathlib.Omega.{arith}
use lib.Dec.{leb, eqb}
use lib.ListN.{length, get_or, take, set, length-set, length-take}
use lib.Seq.{take_all, take-suc, take-suc-set}
use borrow.Author.Tests.{le-leb, lt-leb, eq-eqb, ne_eqb}
use Rattle.lists.specs.Lists.{bit, every}
use Rattle.lists.proofs.Counts.{count_le, count_append}
use Rattle.lists.proofs.Tests.{every_fails}
use Rattle.lists.proofs.Elements.{get_d_any}
use Rattle.grid.specs.Cells.{cell_of, shows}
use Rattle.fitting.specs.Demand.{picture, opened}
use Rattle.fitting.specs.Passes.{all_open}

-- ---- is every safe cell open?

-- a cell is a mine of the board, or open
abbrev pub mine_or_open : List ℕ → List ℕ → ℕ → Bool
mine_or_open b p c = eqb (cell_of b c) 255 || leb (shows p c) 8

module _ (b p : List ℕ) (same : length p ≡ length b) (c : ℕ) (on : c < length b) where
  read : shows p c ≡ cell_of p c
  read = get_d_any p c 255 0 (omega arith)

  pub mine_passes : cell_of b c ≡ 255 → mine_or_open b p c ≡ true
  mine_passes e = rw (eq-eqb (cell_of b c) 255 e)

  pub open_passes : cell_of b c ≢ 255 → cell_of p c ≤ 8 → mine_or_open b p c ≡ true
  open_passes n o = rw (ne_eqb (cell_of b c) 255 n, read, le-leb (cell_of p c) 8 o)

  -- a safe cell is not open
  pub shut_fails : cell_of b c ≢ 255 → 8 < cell_of p c → false ≡ all_open b p
  unfolding all_open
  shut_fails n o =
      sym (every_fails (length b) (mine_or_open b p) c on (rw (ne_eqb (cell_of b c) 255 n, read, lt-leb (cell_of p c) 8 o)))

pub all_passed : (b p : List ℕ) (i : ℕ) → i ≤ length b → length b ≤ i → every i (mine_or_open b p) ≡ true → true ≡ all_open b p
unfolding all_open
all_passed b p i within past h = let e : i ≡ length b = omega arith in sym (rw e at h)

-- ---- what is open is shown and counted, and for what is not 10 is shown

abbrev pub shown_as : ℕ → ℕ
shown_as v = cond (leb v 8) v 10

-- the first i cells of the position p are shown in q, and n of them are open
pub record Showing (p q : List ℕ) (i n : ℕ) : Type 0 where
  pub long : length q ≡ length p
  pub shown : take i q ≡ picture (take i p)
  pub counted : n ≡ opened (take i p)

pub showing_first : {p q : List ℕ} → length q ≡ length p → Showing p q 0 0
showing_first e = record { long = e; shown = refl; counted = refl }

module _ {p q : List ℕ} {i n : ℕ} (h : Showing p q i n) where
  -- no more are open than there are
  pub showing_few : n ≤ i
  showing_few = omega (arith, h.counted, count_le (λ (c : ℕ). leb c 8) (take i p), length-take i p)

  -- the cell at place i is shown
  showing_next : i < length p → (v : ℕ) → v ≡ shown_as (get_or p i 0) → (m : ℕ) → m ≡ n + bit (leb (get_or p i 0) 8) → Showing p (set q i v) (i + 1) m
  showing_next on v is m counts = record {
    long = length-set q i v ∙ h.long;
    shown =
        rw (add-one, take-suc p i 0 on, is)
        (take-suc-set q i (shown_as (get_or p i 0)) (omega (arith, h.long))
        ∙ ap (λ (k : List ℕ). k ++ (shown_as (get_or p i 0) ∷ [])) h.shown
        ∙ sym (map-append shown_as (take i p) (get_or p i 0 ∷ [])));
    counted = rw (add-one, take-suc p i 0 on) (counts ∙ omega (arith, h.counted, count_append (λ (c : ℕ). leb c 8) (take i p) (get_or p i 0 ∷ [])));
  }

  -- it is open: it is counted
  pub showing_open : i < length p → {v : ℕ} → v ≡ get_or p i 0 → v ≤ 8 → Showing p (set q i v) (i + 1) (n + 1)
  showing_open on {v} read o =
      let e : leb (get_or p i 0) 8 ≡ true = rw read at (le-leb v 8 o) in
      showing_next on v (read ∙ rw e) (n + 1) (rw e)

  -- it is not
  pub showing_shut : i < length p → {v : ℕ} → v ≡ get_or p i 0 → 8 < v → Showing p (set q i 10) (i + 1) n
  showing_shut on {v} read o =
      let e : leb (get_or p i 0) 8 ≡ false = rw read at (lt-leb v 8 o) in
      showing_next on 10 (rw e) n (rw e (omega arith))

  -- all cells are shown
  pub showing_last : length p ≤ i → (n ≡ opened p) × (q ≡ picture p)
  showing_last past =
      let whole : take i p ≡ p = take_all i p past in
      (h.counted ∙ ap opened whole, sym (take_all i q (omega (arith, h.long))) ∙ h.shown ∙ ap picture whole)
