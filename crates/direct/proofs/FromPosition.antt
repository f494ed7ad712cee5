-- What the direct rule finds, straight from the position: a closed cell is a mine where an open cell beside it shows as many as it has closed cells and
-- known mines around it; it is safe where an open cell shows as many as it has those mines and known ones; and there is a contradiction where one shows
-- fewer. No block and no order is left. The equations of the frontier are those of the open cells, each with the closed cells beside it in another
-- order; so OrderFree tells. `near` lists at most eight neighbours of a cell, none twice. Assumes nothing.
use mathlib.Core.Path.{◌≡◌, refl, ◌∙◌}
use mathlib.Core.Logic.{◌↔◌}
use mathlib.Core.Bool.{Bool, true, not, ◌&&◌}
use mathlib.Core.List.Memᴰ
use mathlib.Core.List.{List, Memᴰ}
use Prim.Native.Nat.{ℕ, ◌+◌, ◌≤◌}
use native.Mathlib.Omega.{arith}
use lib.Dec.{ltb, eqb}
use lib.ListN.{length}
use borrow.Author.Tests.{eqb-true, eq-eqb, ne_eqb, ltb-true, lt-ltb}
use Rattle.lists.specs.Lists.{count, any, has, nodup}
use Rattle.lists.proofs.Tests.{same_test, and_left, and_right}
use Rattle.lists.proofs.Members.{has_not_empty}
use Rattle.lists.proofs.Counts.{count_le, count_ext, any_at, any_of}
use Rattle.lists.proofs.Unions.{mem_has, has_mem}
use Rattle.lists.proofs.PassingElements.{any_map}
use Rattle.lists.proofs.Occurrences.{any_agree}
use Rattle.grid.specs.Cells.{shows}
use Rattle.fitting.specs.Equations.{is_known_mine}
use Rattle.blocks.specs.Blocks.{BlockEquation}
use Rattle.blocks.specs.BlockSets.{all_equations}
use Rattle.blocks.proofs.ProperBlocks.{block_equation_lem}
use Rattle.sources.specs.Sources.{closed_beside, sources}
use Rattle.sources.specs.Equations.{known_beside, plain_equation, plain_equations}
use Rattle.sources.proofs.ListedSources.{listed_source, source_listed}
use Rattle.growth.proofs.Partition.{source_in_part, part_has_sources}
use Rattle.frontier.specs.Frontier.{equation_of, cells_met, block_of, frontier}
use Rattle.frontier.proofs.BlockLaws.{source_equation, equation_rearranged, frontier_proper, Origin, equation_origin}
use Rattle.frontier.proofs.Coverage.{frontier_once}
use Rattle.direct.specs.Direct.{full, direct}
use Rattle.direct.specs.AtPosition.{mines_with, full_at, is_mine_at, is_contradictory_at}
use Rattle.direct.proofs.OrderFree.{is_mine_of, only_those, too_few, is_safe_of, is_contradictory, direct_contradiction_free, direct_mines_free, direct_safe_free, Alike, SameEquations, same_mine, same_safe, same_contradictory}

-- ---- the tests at a position

-- c is no mine by the direct rule, and an open cell beside it shows no more than the known mines and those that the rule finds
abbrev pub is_safe_at : (ℕ → List ℕ) → List ℕ → ℕ → Bool
is_safe_at near p c =
    not (is_mine_at near p c) && any (λ d. (not (full_at near p d) && eqb (shows p d) (mines_with near p (is_mine_at near p) d)) && has (closed_beside near p d) c) (sources near p)

-- a source that passes a test and has c beside it is an open cell that does: nothing else of a source is asked
pub beside_open : (near : ℕ → List ℕ) (p : List ℕ) (t : ℕ → Bool) (c : ℕ)
    → (any (λ d. t d && has (closed_beside near p d) c) (sources near p) ≡ true)
    ↔ ((d : ℕ) × (shows p d ≤ 8) × (t d ≡ true) × (has (closed_beside near p d) c ≡ true))
beside_open near p t c = (there, back)
  where
    there : any (λ d. t d && has (closed_beside near p d) c) (sources near p) ≡ true
        → (d : ℕ) × (shows p d ≤ 8) × (t d ≡ true) × (has (closed_beside near p d) c ≡ true)
    there h =
        let (d, m, x) = any_at (λ d. t d && has (closed_beside near p d) c) (sources near p) h in
        (d, (listed_source near p d m).is_open, and_left (t d) (has (closed_beside near p d) c) x, and_right (t d) (has (closed_beside near p d) c) x)

    back : (d : ℕ) × (shows p d ≤ 8) × (t d ≡ true) × (has (closed_beside near p d) c ≡ true)
        → any (λ d. t d && has (closed_beside near p d) c) (sources near p) ≡ true
    back (d, o, x, y) =
        any_of (λ d. t d && has (closed_beside near p d) c) (sources near p) d
        (source_listed near p d o (has_not_empty (closed_beside near p d) c y)) (rw (x, y))

-- ---- the equations of the open cells, in reading order

module _ (near : ℕ → List ℕ) (p : List ℕ) (once : (c : ℕ) → nodup (near c) ≡ true) where
  -- the equation of a source in its block is like its plain one
  plain_alike : (cs : List ℕ) (d : ℕ) → has cs d ≡ true → Alike (equation_of near p (cells_met near p cs) d) (plain_equation near p d)
  plain_alike cs d h = record { same_cells = equation_rearranged near p cs d h (once d); same_rest = refl }

  -- so the frontier has the same equations
  pub frontier_same_equations : SameEquations (all_equations (frontier near p)) (plain_equations near p)
  unfolding frontier
  frontier_same_equations = record { there = λ e m. there e (equation_origin near p e m); back = λ e m. back e (Memᴰ.of_map (plain_equation near p) (sources near p) m) }
    where
      there : (e : BlockEquation) → Origin near p e → (d : BlockEquation) × Memᴰ d (plain_equations near p) × Alike e d
      there e o = (
        plain_equation near p o.source,
        Memᴰ.map (plain_equation near p) (has_mem (sources near p) o.source (part_has_sources near p o.part o.of_frontier o.source o.of_part)),
        rw o.same (plain_alike o.part o.source o.of_part),
      )

      back : (e : BlockEquation) → (d : ℕ) × Memᴰ d (sources near p) × (plain_equation near p d ≡ e)
          → (x : BlockEquation) × Memᴰ x (all_equations (frontier near p)) × Alike x e
      back e (d, m, w) =
          let (cs, n, h) = source_in_part near p d (mem_has (sources near p) m) in (
            equation_of near p (cells_met near p cs) d,
            block_equation_lem (frontier near p) (block_of near p cs) (equation_of near p (cells_met near p cs) d) (Memᴰ.map (block_of near p) n) (source_equation near p cs d h),
            rw (← w) (plain_alike cs d h),
          )

  module _ (few : (c : ℕ) → length (near c) ≤ 8) where
    -- ---- the tests on equations are the tests at the position

    -- the remainder is k where the number is k and the known mines
    rest_equal : (d n k : ℕ) → n ≡ 8 + k → eqb (plain_equation near p d).rest n ≡ eqb (shows p d) (k + known_beside near p d)
    rest_equal d n k e = same_test (eqb (plain_equation near p d).rest n) (eqb (shows p d) (k + known_beside near p d))
        (λ h. eq-eqb (shows p d) (k + known_beside near p d) (omega (arith, eqb-true (plain_equation near p d).rest n h, count_le (is_known_mine p) (near d), few d)))
        (λ h. eq-eqb (plain_equation near p d).rest n (omega (arith, eqb-true (shows p d) (k + known_beside near p d) h, count_le (is_known_mine p) (near d), few d)))

    -- and below k where the number is below that
    rest_below : (d k : ℕ) → ltb (plain_equation near p d).rest (8 + k) ≡ ltb (shows p d) (k + known_beside near p d)
    rest_below d k = same_test (ltb (plain_equation near p d).rest (8 + k)) (ltb (shows p d) (k + known_beside near p d))
        (λ h. lt-ltb (shows p d) (k + known_beside near p d) (omega (arith, ltb-true (plain_equation near p d).rest (8 + k) h, count_le (is_known_mine p) (near d), few d)))
        (λ h. lt-ltb (plain_equation near p d).rest (8 + k) (omega (arith, ltb-true (shows p d) (k + known_beside near p d) h, count_le (is_known_mine p) (near d), few d)))

    -- an open cell's equation is full
    full_plain : (d : ℕ) → full (plain_equation near p d) ≡ full_at near p d
    full_plain d = rest_equal d (length (closed_beside near p d) + 8) (length (closed_beside near p d)) (omega arith)

    -- a cell is a mine
    mine_plain : (c : ℕ) → is_mine_of (plain_equations near p) c ≡ is_mine_at near p c
    mine_plain c =
        any_map (λ (e : BlockEquation). full e && has e.cells c) (plain_equation near p) (sources near p)
        ∙ any_agree (λ d. full (plain_equation near p d) && has (closed_beside near p d) c) (λ d. full_at near p d && has (closed_beside near p d) c) (sources near p)
        (λ d m. rw (full_plain d))

    -- so many mines are beside an open cell
    mines_plain : (d : ℕ) → count (is_mine_of (plain_equations near p)) (closed_beside near p d) ≡ count (is_mine_at near p) (closed_beside near p d)
    mines_plain d = count_ext (is_mine_of (plain_equations near p)) (is_mine_at near p) (closed_beside near p d) (λ c _. mine_plain c)

    -- a cell is safe
    safe_plain : (c : ℕ) → is_safe_of (plain_equations near p) c ≡ is_safe_at near p c
    safe_plain c = rw (
      mine_plain c,
      any_map (λ (e : BlockEquation). only_those (is_mine_of (plain_equations near p)) e && has e.cells c) (plain_equation near p) (sources near p),
      any_agree (λ d. only_those (is_mine_of (plain_equations near p)) (plain_equation near p d) && has (closed_beside near p d) c)
          (λ d. (not (full_at near p d) && eqb (shows p d) (mines_with near p (is_mine_at near p) d)) && has (closed_beside near p d) c) (sources near p)
          (λ d m. rw (full_plain d, mines_plain d, rest_equal d (8 + count (is_mine_at near p) (closed_beside near p d)) (count (is_mine_at near p) (closed_beside near p d)) refl)),
    )

    -- an open cell that shows as many as it has closed cells and known mines does not show fewer than some of these are
    full_not_fewer : (d : ℕ)
        → (not (full_at near p d) && ltb (shows p d) (mines_with near p (is_mine_at near p) d)) ≡ ltb (shows p d) (mines_with near p (is_mine_at near p) d)
    full_not_fewer d = same_test _ (ltb (shows p d) (mines_with near p (is_mine_at near p) d))
        (and_right (not (full_at near p d)) (ltb (shows p d) (mines_with near p (is_mine_at near p) d)))
        (λ h. rw (ne_eqb (shows p d) (length (closed_beside near p d) + known_beside near p d) (λ e.
        omega (arith, e, ltb-true (shows p d) (mines_with near p (is_mine_at near p) d) h, count_le (is_mine_at near p) (closed_beside near p d)))) h)

    -- there is a contradiction
    contradictory_plain : is_contradictory (plain_equations near p) ≡ is_contradictory_at near p
    contradictory_plain =
        any_map (too_few (is_mine_of (plain_equations near p))) (plain_equation near p) (sources near p)
        ∙ any_agree (λ d. too_few (is_mine_of (plain_equations near p)) (plain_equation near p d))
        (λ d. ltb (shows p d) (mines_with near p (is_mine_at near p) d)) (sources near p)
        (λ d m. rw (full_plain d, mines_plain d, rest_below d (count (is_mine_at near p) (closed_beside near p d))) (full_not_fewer d))

    -- ---- the answer of the direct rule

    -- a contradiction
    pub direct_contradiction_at : (direct (frontier near p)).contradiction ≡ is_contradictory_at near p
    direct_contradiction_at =
        direct_contradiction_free (frontier near p) (frontier_proper near p) (frontier_once near p)
        ∙ same_contradictory (all_equations (frontier near p)) (plain_equations near p) frontier_same_equations
        ∙ contradictory_plain

    -- the mines, where there is none
    pub direct_mines_at : (c : ℕ) → has (direct (frontier near p)).mines c ≡ (not (is_contradictory_at near p) && is_mine_at near p c)
    direct_mines_at c =
        direct_mines_free (frontier near p) (frontier_proper near p) (frontier_once near p) c
        ∙ rw (
          same_contradictory (all_equations (frontier near p)) (plain_equations near p) frontier_same_equations ∙ contradictory_plain,
          same_mine (all_equations (frontier near p)) (plain_equations near p) frontier_same_equations c ∙ mine_plain c,
        )

    -- and the safe cells
    pub direct_safe_at : (c : ℕ) → has (direct (frontier near p)).safe c ≡ (not (is_contradictory_at near p) && is_safe_at near p c)
    direct_safe_at c =
        direct_safe_free (frontier near p) (frontier_proper near p) (frontier_once near p) c
        ∙ rw (
          same_contradictory (all_equations (frontier near p)) (plain_equations near p) frontier_same_equations ∙ contradictory_plain,
          same_safe (all_equations (frontier near p)) (plain_equations near p) frontier_same_equations c ∙ safe_plain c,
        )
