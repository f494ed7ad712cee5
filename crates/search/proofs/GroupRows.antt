-- The rows of `solutions` are the solutions of a block's equations, group by group: what solves the equations gives a row, its mine counts, and each row
-- comes from something that solves them. The idea: the rows are all those within the sizes that solve the block, and an equation's mines are those of its
-- groups. For a block as it should be (`Proper`). Rests on ListedSolutions, on EquationGroups, and on Groups of the crate fitting. Assumes nothing.
use mathlib.Core.Path.{◌≡◌, sym, ap, ◌∙◌}
use mathlib.Core.Bool.{Bool, true, cond}
use mathlib.Core.List.{List, [], map, map-map, Memᴰ}
use Prim.Native.Nat.{ℕ, ◌+◌, ◌<◌}
use native.Mathlib.Nat.{zero-add}
use native.Mathlib.Omega.{arith}
use lib.ListN.{length, get_or, length-map}
use lib.Seq.{ext_get_or}
use borrow.Author.Tests.{eqb-true, eq-eqb}
use Rattle.lists.specs.Lists.{range, count}
use Rattle.lists.proofs.Joined.{read_all}
use Rattle.lists.proofs.Rearranged.{length_range}
use Rattle.lists.proofs.Unions.{all_of}
use Rattle.lists.proofs.Occurrences.{all_in}
use Rattle.lists.proofs.PlacesAndRanges.{map_read}
use Rattle.lists.proofs.ReadBack.{range_made}
use Rattle.fitting.proofs.Groups.{total, total_ext, Row, solution_row, row_solution}
use Rattle.blocks.specs.Blocks.{BlockEquation, Block}
use Rattle.blocks.proofs.ProperBlocks.{Proper, says_in, Solves}
use Rattle.groups.specs.Groups.{firsts, groups, sizes, groups_in}
use Rattle.groups.proofs.GroupLaws.{groups_many, sizes_long, size_at_lem}
use Rattle.search.specs.Solutions.{sum, meets_rest, solves, solutions}
use Rattle.search.specs.TableRows.{SolutionRow}
use Rattle.search.proofs.Vectors.{within_length, within_read, within_places}
use Rattle.search.proofs.EquationGroups.{uses_group, equation_sum, block_groups}
use Rattle.search.proofs.ListedSolutions.{in_solutions, solutions_in}

-- ---- the rows of a block

module _ (b : Block) (proper : Proper b) where
  -- `solutions` has these rows and no others
  pub row_listed : (row : List ℕ) → SolutionRow b row → Memᴰ row (solutions b)
  row_listed row r =
      in_solutions b proper row
      (within_places (sizes b) row (r.whole ∙ sym (sizes_long b)) (λ g l. r.small g (omega (arith, sizes_long b)))) r.solved

  pub listed_row : (row : List ℕ) → Memᴰ row (solutions b) → SolutionRow b row
  listed_row row m =
      let (within, solved) = solutions_in b proper row m in
      record { whole = within_length (sizes b) row within ∙ sizes_long b; small = λ g _. within_read (sizes b) row within g; solved = solved }

-- ---- rows, and what solves the equations

module _ (b : Block) where
  -- a row solves a block where each equation has its remainder
  solves_each : (row : List ℕ) → solves b row ≡ true
      → (e : BlockEquation) → Memᴰ e b.equations → total (length (firsts b)) (λ j. cond (uses_group b e j) (get_or row j 0) 0) + 8 ≡ e.rest
  solves_each row h e m =
      omega (
        arith,
        equation_sum b e (λ (g : ℕ). get_or row g 0),
        eqb-true (sum (map (λ (g : ℕ). get_or row g 0) (groups_in b e)) + 8) e.rest (all_in (meets_rest b row) b.equations h m),
      )

  each_solves : (row : List ℕ)
      → ((e : BlockEquation) → Memᴰ e b.equations → total (length (firsts b)) (λ j. cond (uses_group b e j) (get_or row j 0) 0) + 8 ≡ e.rest)
      → solves b row ≡ true
  each_solves row h =
      all_of (meets_rest b row) b.equations (λ e m.
      eq-eqb (sum (map (λ (g : ℕ). get_or row g 0) (groups_in b e)) + 8) e.rest (omega (arith, equation_sum b e (λ (g : ℕ). get_or row g 0), h e m)))

  module _ (proper : Proper b) where
    -- a listed row is a row of the block's groups
    pub row_of_groups : (row : List ℕ) → SolutionRow b row → Row (says_in b) (block_groups b proper) (λ g. get_or row g 0)
    row_of_groups row r = record {
      small = λ g l. rw (← size_at_lem b g) (r.small g l);
      holds = λ i. solves_each row r.solved i.0 i.1;
    }

    -- and such a row is listed
    pub groups_row : (k : ℕ → ℕ) → Row (says_in b) (block_groups b proper) k → Memᴰ (map k (range 0 (length (firsts b)))) (solutions b)
    groups_row k r = row_listed b proper (map k (range 0 (length (firsts b)))) record {
      whole = length-map (range 0 (length (firsts b))) k ∙ length_range 0 (length (firsts b));
      small = λ g l. rw (at g l, size_at_lem b g) (r.small g l);
      solved = each_solves (map k (range 0 (length (firsts b)))) (λ e m.
          omega (
            arith,
            total_ext (length (firsts b)) (λ j. cond (uses_group b e j) (get_or (map k (range 0 (length (firsts b)))) j 0) 0)
                (λ j. cond (uses_group b e j) (k j) 0) (λ j l. rw (at j l)),
            r.holds (e, m),
          ));
    }
      where
        at : (g : ℕ) → g < length (firsts b) → get_or (map k (range 0 (length (firsts b)))) g 0 ≡ k g
        at g l = range_made k 0 (length (firsts b)) g 0 l ∙ ap k (zero-add g)

    -- the mine counts of what solves the equations are a row
    pub solution_listed : (f : ℕ → Bool) → Solves f b → Memᴰ (map (λ (g : List ℕ). count f g) (groups b)) (solutions b)
    solution_listed f s = rw counts at (groups_row (λ g. count f (get_or (groups b) g [])) (solution_row (says_in b) (block_groups b proper) f s))
      where
        counts : map (λ (g : ℕ). count f (get_or (groups b) g [])) (range 0 (length (firsts b))) ≡ map (λ (g : List ℕ). count f g) (groups b)
        counts =
            sym (map-map (λ (g : List ℕ). count f g) (λ (g : ℕ). get_or (groups b) g []) (range 0 (length (firsts b))))
            ∙ ap (λ (n : ℕ). map (λ (g : List ℕ). count f g) (map (λ (g : ℕ). get_or (groups b) g []) (range 0 n))) (sym (groups_many b))
            ∙ ap (map (λ (g : List ℕ). count f g)) (read_all (groups b) [])

    -- and each row has something that solves the equations with these counts
    pub row_has_solution : (row : List ℕ) → Memᴰ row (solutions b)
        → (f : ℕ → Bool) × Solves f b × (map (λ (g : List ℕ). count f g) (groups b) ≡ row)
    row_has_solution row m =
        let r = listed_row b proper row m in
        let (f, s, counts) = row_solution (says_in b) (block_groups b proper) (λ g. get_or row g 0) (row_of_groups row r) in (
          f,
          s,
          ext_get_or 0 (map (λ (g : List ℕ). count f g) (groups b)) row
              (length-map (groups b) (λ (g : List ℕ). count f g) ∙ groups_many b ∙ sym r.whole)
              (λ g l. let w : g < length (groups b) = omega (arith, length-map (groups b) (λ (x : List ℕ). count f x)) in
              map_read (λ (x : List ℕ). count f x) (groups b) g [] 0 w ∙ counts g (omega (arith, groups_many b))),
        )
