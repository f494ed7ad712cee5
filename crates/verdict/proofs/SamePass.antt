-- A pass asks of what a rule found only which cells the two lists have, and not in which order: marks in any order show the same (`marks_any_order`), the
-- flood opens the same cells (`flood_any_order` of the crate flood), so the pass leaves the same position (`same_pass`), and it finds nothing where the other
-- finds nothing (`same_nothing`). Assumes nothing.
use mathlib.Core.Path.{◌≡◌, sym, ap, ◌∙◌}
use mathlib.Core.Bool.{cond}
use mathlib.Core.List.{List, [], ◌∷◌}
use Prim.Native.Nat.{ℕ, ◌≤◌, ◌<◌}
use lib.ListN.{length, get_or, set}
use Rattle.lists.specs.Lists.{has}
use Rattle.lists.proofs.Joined.{map_range}
use Rattle.fitting.specs.Boards.{Accepted}
use Rattle.fitting.specs.Passes.{GradedCells, nothing, open_cells, mark_mines, pass}
use Rattle.marks.specs.Written.{written}
use Rattle.marks.proofs.WrittenCells.{written_none, written_next, written_length}
use Rattle.flood.proofs.Reached.{flood_any_order}
use Rattle.verdict.proofs.InPlaceAndEmpty.{SameNumbers, same_empty}

-- ---- marks

-- one after another they are written at all cells of the list
pub marks_written : (p cs : List ℕ) → written 11 cs p ≡ mark_mines p cs
marks_written p [] = written_none 11 p
marks_written p (c ∷ cs) = written_next 11 c cs p ∙ marks_written (set p c 11) cs

pub marks_any_order : (p cs ds : List ℕ) → SameNumbers cs ds → mark_mines p cs ≡ mark_mines p ds
unfolding written
marks_any_order p cs ds same =
    sym (marks_written p cs)
    ∙ map_range (λ c. cond (has cs c) 11 (get_or p c 0)) (λ c. cond (has ds c) 11 (get_or p c 0)) 0 (length p) (λ c _ _. rw (same c))
    ∙ marks_written p ds

-- ---- a pass

-- two findings with the same safe cells and the same mines
pub record SameCells (f g : GradedCells) : Type 0 where
  pub safe : SameNumbers f.safe g.safe
  pub mines : SameNumbers f.mines g.mines

pub same_nothing : {f g : GradedCells} → SameCells f g → nothing f ≡ nothing g
same_nothing {f} {g} same = rw (same_empty f.safe g.safe same.safe, same_empty f.mines g.mines same.mines)

pub same_pass : (near : ℕ → List ℕ) (b : List ℕ) → Accepted near b → ((c : ℕ) → c < length b → length (near c) ≤ 8)
    → (p : List ℕ) → length p ≡ length b → {f g : GradedCells} → SameCells f g → pass near b p f ≡ pass near b p g
unfolding pass
same_pass near b ok few p whole {f} {g} same =
    ap (λ (q : List ℕ). open_cells near b q f.safe) (marks_any_order p f.mines g.mines same.mines)
    ∙ flood_any_order near b ok few (mark_mines p g.mines) (ap length (sym (marks_written p g.mines)) ∙ written_length 11 g.mines p ∙ whole) f.safe g.safe (λ c _. same.safe c)
