-- What the rules tell a pass: the struct has the cells of what was found, in whatever order. So a pass with the struct's lists is the pass of the definition
-- (`finds_pass`), and the struct's counts are both 0 exactly where nothing was found. Rests on SamePass. Assumes nothing.
use mathlib.Core.Path.{◌≡◌, sym, ◌∙◌}
use mathlib.Core.Logic.{◌≢◌, inl, inr}
use mathlib.Core.Bool.{true, false, ◌&&◌}
use mathlib.Core.List.{List}
use Prim.Native.Nat.{ℕ, ◌+◌, ◌≤◌, ◌<◌}
use native.Mathlib.Omega.{arith}
use lib.Dec.{eqb}
use lib.ListN.{length}
use borrow.Author.Tests.{eqb-true, eq-eqb, ne_eqb}
use Rattle.lists.specs.Lists.{empty}
use Rattle.lists.proofs.Tests.{Decided, decided}
use Rattle.fitting.specs.Boards.{Accepted}
use Rattle.fitting.specs.Passes.{GradedCells, nothing, open_cells, mark_mines, pass}
use Rattle.marks.specs.CellLists.{list_in, Below}
use Rattle.marks.specs.declared.listing.CellList.{CellList}
use Rattle.verdict.specs.Findings.{Finds}
use Rattle.verdict.specs.declared.finding.Finding.{Finding}
use Rattle.verdict.proofs.InPlaceAndEmpty.{empty_taken}
use Rattle.verdict.proofs.SamePass.{SameCells, same_nothing, same_pass}

-- the struct's lists and grade
abbrev as_found : Finding → GradedCells
as_found r = record { safe = list_in r.lists.safe; mines = list_in r.lists.mines; grade = r.grade }

-- a list is empty exactly where its count is 0
below_empty : {n : ℕ} {r : CellList} → Below n r → empty (list_in r) ≡ eqb r.count 0
below_empty {n} {r} h = empty_taken r.cells r.count (omega (arith, h.few, h.long))

module _ {n : ℕ} {f : GradedCells} {r : Finding} (h : Finds n f r) where
  same_cells : SameCells (as_found r) f
  same_cells = record { safe = h.same_safe; mines = h.same_mines }

  -- nothing was found where both counts are 0
  by_counts : nothing f ≡ (eqb r.lists.safe.count 0 && eqb r.lists.mines.count 0)
  by_counts = sym (same_nothing same_cells) ∙ rw (below_empty h.safe_below, below_empty h.mines_below)

  pub finds_nothing : r.lists.safe.count + r.lists.mines.count ≡ 0 → nothing f ≡ true
  finds_nothing e = by_counts ∙ rw (eq-eqb r.lists.safe.count 0 (omega arith), eq-eqb r.lists.mines.count 0 (omega arith))

  -- and a cell where one is not
  pub finds_cell : r.lists.safe.count + r.lists.mines.count ≢ 0 → nothing f ≡ false
  finds_cell e = by_counts ∙ go (decided (eqb r.lists.safe.count 0))
    where
      go : Decided (eqb r.lists.safe.count 0) → (eqb r.lists.safe.count 0 && eqb r.lists.mines.count 0) ≡ false
      go (inl z) =
          let none : r.lists.safe.count ≡ 0 = eqb-true r.lists.safe.count 0 z in
          rw (z, ne_eqb r.lists.mines.count 0 (λ w. e (omega arith)))
      go (inr z) = rw z

  -- the pass with the struct's lists is the definition's
  pub finds_pass : (near : ℕ → List ℕ) (b : List ℕ) → Accepted near b → ((c : ℕ) → c < length b → length (near c) ≤ 8)
      → (p : List ℕ) → length p ≡ length b
      → open_cells near b (mark_mines p (list_in r.lists.mines)) (list_in r.lists.safe) ≡ pass near b p f
  unfolding pass
  finds_pass near b ok few p whole = same_pass near b ok few p whole same_cells
