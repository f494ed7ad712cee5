-- What a pass finds where the board shows its mine total: the three rules' cells, and where they find nothing those of the total, as the struct has them.
-- Rests on FoundCells and on the rules tried one after another. Assumes nothing.
use Rattle.std.specs.Prelude.{Some}
use mathlib.Core.Path.{◌≡◌, refl, ap, ◌∙◌}
use mathlib.Core.Bool.{Bool, true, false, ◌&&◌}
use mathlib.Core.List.{List}
use Prim.Native.Nat.{ℕ, ◌≤◌}
use native.Mathlib.Omega.{arith}
use lib.Dec.{ltb}
use lib.ListN.{length}
use borrow.Author.Tests.{lt-ltb, eqb-true}
use Rattle.lists.specs.Lists.{range, keep, has, count}
use Rattle.lists.proofs.Members.{range_in, kept_has}
use Rattle.lists.proofs.All.{has_all}
use Rattle.lists.proofs.Collected.{keep_few}
use Rattle.lists.proofs.Rearranged.{length_range}
use Rattle.fitting.specs.Layouts.{of_total, free_in_every}
use Rattle.fitting.specs.Equations.{is_closed}
use Rattle.fitting.specs.Passes.{nothing, or_else}
use Rattle.fitting.specs.ForcedCells.{mined_in_every, forced_cells}
use Rattle.enumeration.specs.ThreeRules.{three_rules}
use Rattle.marks.specs.CellLists.{cell_list, list_in, Below}
use Rattle.marks.specs.declared.listing.CellList.{CellList}
use Rattle.marks.proofs.HeldLists.{list_held, cell_list_below}
use Rattle.direct.specs.declared.answer.Lists.{Lists}
use Rattle.fitting.specs.Boards.{mine_total, own}
use Rattle.fitting.proofs.KnownTotal.{own_of_total}
use Rattle.verdict.specs.Rules.{rules_of}
use Rattle.verdict.specs.Findings.{Finds, graded_finding, shown_total, rules_at}
use Rattle.verdict.specs.declared.finding.Finding.{Finding}

-- cells of a position that pass a test, in an array
module _ (p : List ℕ) (n : ℕ) (size : length p ≡ n) (few : n ≤ 1024) (test : ℕ → Bool) (r : CellList) (is : r ≡ cell_list (keep test (range 0 (length p)))) where
  kept_below : Below n r
  kept_below =
      cell_list_below n r (keep test (range 0 (length p))) is
      (omega (arith, keep_few {n = length p} test (range 0 (length p)) (omega (arith, length_range 0 (length p))), size, few))
      (has_all (λ c. ltb c n) (keep test (range 0 (length p)))
      (λ c h. lt-ltb c n (omega (arith, (range_in 0 (length p) c (kept_has test (range 0 (length p)) c h)).1, size))))

  kept_same : (c : ℕ) → has (list_in r) c ≡ has (keep test (range 0 (length p))) c
  kept_same c = ap (λ (l : List ℕ). has l c) (list_held r (keep test (range 0 (length p))) is)

module _ (near : ℕ → List ℕ) (p : List ℕ) (total : ℕ) where
  -- the struct of the total's lists
  pub finds_total : (n : ℕ) → length p ≡ n → n ≤ 1024 → (r : Lists) → r.safe ≡ cell_list (forced_cells near (of_total total) 5 p).safe
      → r.mines ≡ cell_list (forced_cells near (of_total total) 5 p).mines → Finds n (forced_cells near (of_total total) 5 p) (graded_finding r 5)
  unfolding forced_cells
  finds_total n size few r safe mines = record {
    safe_below = kept_below p n size few (λ c. is_closed p c && free_in_every near (of_total total) p c) r.safe safe;
    mines_below = kept_below p n size few (λ c. is_closed p c && mined_in_every near (of_total total) p c) r.mines mines;
    same_safe = kept_same p n size few (λ c. is_closed p c && free_in_every near (of_total total) p c) r.safe safe;
    same_mines = kept_same p n size few (λ c. is_closed p c && mined_in_every near (of_total total) p c) r.mines mines;
    same_grade = refl;
  }

  -- the three rules find a cell, and that is what the pass finds
  pub rules_at_three : nothing (three_rules near p) ≡ false → rules_at (Some total) near p ≡ three_rules near p
  unfolding or_else
  rules_at_three e = rw e

  -- or they find nothing
  pub rules_at_total : nothing (three_rules near p) ≡ true → rules_at (Some total) near p ≡ forced_cells near (of_total total) 5 p
  unfolding or_else
  rules_at_total e = rw e

-- what is found with the board's own total, where it is shown
pub finds_own : (near : ℕ → List ℕ) (p : List ℕ) (shown : Bool) (b : List ℕ) {n : ℕ} {r : Finding} → Finds n (rules_at (shown_total shown b) near p) r → Finds n (rules_of shown near b p) r
finds_own near p true b found = found
finds_own near p false b found = found

-- which is that of the board's own layout
pub shown_own : (shown : Bool) (b : List ℕ) (total : ℕ) → shown_total shown b ≡ Some total → count (λ x. x) (own b) ≡ total
shown_own true b total e = let is : mine_total b ≡ total = cc in eqb-true (count (λ x. x) (own b)) (mine_total b) (own_of_total b) ∙ is
shown_own false b total e = let z : ◌≡◌ {A = ℕ} 0 1 = cc in absurd (omega arith)
