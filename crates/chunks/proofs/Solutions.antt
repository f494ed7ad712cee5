-- Splitting loses no solution and adds none: mines placed as f says solve all equations of the blocks before exactly if they solve all equations after and
-- those that are dropped. An equation turned round says the same, so the test "f does not solve it" counts alike before and after. Rests on `chunks_kept`. Assumes nothing.
use mathlib.Core.Path.{◌≡◌, sym, ap, ◌∙◌}
use mathlib.Core.Bool.{Bool, true, not, ◌&&◌}
use mathlib.Core.List.{List, Memᴰ}
use Prim.Native.Nat.{ℕ, ◌+◌}
use native.Mathlib.Omega.{arith}
use lib.Dec.{eqb}
use borrow.Author.Tests.{eqb-true, eq-eqb}
use Rattle.lists.specs.Lists.{count, all}
use Rattle.lists.proofs.Tests.{same_test, and_left, and_right}
use Rattle.lists.proofs.Occurrences.{all_in}
use Rattle.lists.proofs.Unions.{all_of}
use Rattle.lists.proofs.CountsAlike.{counts_reverse, all_counts}
use Rattle.fitting.specs.Equations.{Holds}
use Rattle.blocks.specs.Blocks.{BlockEquation, Block, says}
use Rattle.blocks.specs.BlockSets.{all_equations}
use Rattle.chunks.specs.Chunks.{chunk_matrixes}
use Rattle.chunks.proofs.Parts.{turned}
use Rattle.chunks.proofs.Contents.{all_dropped, chunks_kept}

-- f solves the equation, as a test
abbrev pub solved : (ℕ → Bool) → BlockEquation → Bool
solved f e = eqb (count f e.cells + 8) e.rest

-- f solves all of the equations
abbrev pub Solves : (ℕ → Bool) → List BlockEquation → Type 0
Solves f es = (e : BlockEquation) → Memᴰ e es → Holds f (says e)

module _ (f : ℕ → Bool) where
  pub turned_solved : (e : BlockEquation) → solved f (turned e) ≡ solved f e
  turned_solved e = ap (λ (n : ℕ). eqb (n + 8) e.rest) (counts_reverse f e.cells)

  solves_all : (es : List BlockEquation) → Solves f es → all (solved f) es ≡ true
  solves_all es h = all_of (solved f) es (λ e m. eq-eqb (count f e.cells + 8) e.rest (h e m))

  all_solves : (es : List BlockEquation) → all (solved f) es ≡ true → Solves f es
  all_solves es h e m = eqb-true (count f e.cells + 8) e.rest (all_in (solved f) es h m)

  module _ (bs : List Block) where
    pub chunks_solved : all (solved f) (all_equations bs) ≡ (all (solved f) (all_equations (chunk_matrixes bs)) && all (solved f) (all_dropped bs))
    chunks_solved =
        all_counts (solved f) (all_equations bs)
        ∙ ap (λ (n : ℕ). eqb n 0) (sym (chunks_kept (λ e. not (solved f e)) (λ e. ap not (turned_solved e)) bs))
        ∙ both (count (λ e. not (solved f e)) (all_equations (chunk_matrixes bs))) (count (λ e. not (solved f e)) (all_dropped bs))
        ∙ sym (rw (all_counts (solved f) (all_equations (chunk_matrixes bs)), all_counts (solved f) (all_dropped bs)))
      where
        both : (m n : ℕ) → eqb (m + n) 0 ≡ (eqb m 0 && eqb n 0)
        both m n =
            same_test (eqb (m + n) 0) (eqb m 0 && eqb n 0)
            (λ h. let s : m + n ≡ 0 = eqb-true (m + n) 0 h in rw (eq-eqb m 0 (omega arith), eq-eqb n 0 (omega arith)))
            (λ h. let a : m ≡ 0 = eqb-true m 0 (and_left (eqb m 0) (eqb n 0) h) in let z : n ≡ 0 = eqb-true n 0 (and_right (eqb m 0) (eqb n 0) h) in eq-eqb (m + n) 0 (omega arith))

    pub chunks_solve : Solves f (all_equations bs) → Solves f (all_equations (chunk_matrixes bs)) × Solves f (all_dropped bs)
    chunks_solve h =
        let t : (all (solved f) (all_equations (chunk_matrixes bs)) && all (solved f) (all_dropped bs)) ≡ true = sym chunks_solved ∙ solves_all (all_equations bs) h in (
          all_solves (all_equations (chunk_matrixes bs)) (and_left (all (solved f) (all_equations (chunk_matrixes bs))) (all (solved f) (all_dropped bs)) t),
          all_solves (all_dropped bs) (and_right (all (solved f) (all_equations (chunk_matrixes bs))) (all (solved f) (all_dropped bs)) t),
        )

    pub solve_chunks : Solves f (all_equations (chunk_matrixes bs)) → Solves f (all_dropped bs) → Solves f (all_equations bs)
    solve_chunks h k =
        all_solves (all_equations bs) (chunks_solved ∙ rw (solves_all (all_equations (chunk_matrixes bs)) h, solves_all (all_dropped bs) k))
