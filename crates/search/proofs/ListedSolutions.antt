-- The solutions of a block as it should be (`Proper`): every row within the groups' sizes that solves the equations, each once and nothing else, in the order
-- of the weights. `by_group` matches the vectors in the order by weight with the rows by group, so what `vectors` has is what the rows are. A block with a
-- negative remainder has none. Rests on Vectors, Orders, and GroupLaws of the crate groups. Assumes nothing.
use mathlib.Core.Path.{◌≡◌, refl, sym, ap, ◌∙◌}
use mathlib.Core.Logic.{inl, inr}
use mathlib.Core.Bool.{Bool, true, false, cond, ◌&&◌}
use mathlib.Core.List.Memᴰ
use mathlib.Core.List.{List, [], map, map-id, map-map, Memᴰ}
use Prim.Native.Nat.{ℕ, ◌+◌}
use native.Mathlib.Omega.{arith}
use lib.Dec.{ltb, eqb}
use lib.ListN.{length, get_or, length-map}
use borrow.Author.Tests.{eqb-true, eqb-false, ltb-true}
use Rattle.lists.specs.Lists.{range, bit, keep, count, same}
use Rattle.lists.proofs.Tests.{Decided, decided, same_test}
use Rattle.lists.proofs.Joined.{read_all}
use Rattle.lists.proofs.Kept.{keep_map}
use Rattle.lists.proofs.Occurrences.{kept_in, in_kept, all_in, any_in}
use Rattle.lists.proofs.CountsAlike.{counts_map, counts_ext, counts_zero}
use Rattle.lists.proofs.TurnedRound.{map_agree}
use Rattle.lists.proofs.PartedLists.{same_equal, same_self, count_same_kept, none_kept}
use Rattle.blocks.specs.Blocks.{BlockEquation, Block}
use Rattle.blocks.proofs.ProperBlocks.{Proper}
use Rattle.groups.specs.Groups.{column, firsts, sizes, groups_in}
use Rattle.groups.specs.Grouping.{grouped}
use Rattle.groups.proofs.GroupLaws.{sizes_long, first_equation}
use Rattle.search.specs.Solutions.{sum, meets_rest, solves, vectors, weighed, by_group, solutions}
use Rattle.search.specs.TableRows.{read_at, is_in_order}
use Rattle.search.proofs.Vectors.{within_sizes, within_length, in_vectors, vectors_in, vectors_once, in_order_keep, vectors_in_order}
use Rattle.search.proofs.Orders.{EachOnce, by_group_length, read_by_group, by_group_of_read, within_by_group, by_weight_each_once}

-- a negative remainder leaves no solution
pub negative_none : (b : Block) → (grouped b).negative ≡ true → solutions b ≡ []
unfolding grouped solutions
negative_none b h =
    none_kept (solves b) (map (by_group (weighed b)) (vectors (map (λ (g : ℕ). get_or (sizes b) g 0) (weighed b)))) (λ row _. go row (decided (solves b row)))
  where
    go : (row : List ℕ) → Decided (solves b row) → solves b row ≡ false
    go row (inr e) = e
    go row (inl e) =
        let (q, m, l) = any_in (λ (q : BlockEquation). ltb q.rest 8) b.equations h in
        absurd (omega (
          arith,
          ltb-true q.rest 8 l,
          eqb-true (sum (map (λ (g : ℕ). get_or row g 0) (groups_in b q)) + 8) q.rest (all_in (meets_rest b row) b.equations e m),
        ))

-- the values for the groups of an order, within their sizes
abbrev pub values_in : Block → List ℕ → List (List ℕ)
values_in b order = vectors (map (λ (g : ℕ). get_or (sizes b) g 0) order)

-- ---- rows within the sizes, by group and in an order

module _ (b : Block) (order : List ℕ) (o : EachOnce order (length (firsts b))) where
  pub within_order : (row : List ℕ) → length row ≡ length (firsts b)
      → within_sizes (map (λ (g : ℕ). get_or (sizes b) g 0) order) (read_at order row) ≡ within_sizes (sizes b) row
  within_order row h =
      within_by_group order (length (firsts b)) o (λ (g : ℕ). get_or (sizes b) g 0) row h
      ∙ ap (λ (ns : List ℕ). within_sizes ns row)
      (ap (λ (n : ℕ). map (λ (g : ℕ). get_or (sizes b) g 0) (range 0 n)) (sym (sizes_long b)) ∙ read_all (sizes b) 0)

  pub values_long : (values : List ℕ) → Memᴰ values (values_in b order) → length values ≡ length (firsts b)
  values_long values m =
      within_length (map (λ (g : ℕ). get_or (sizes b) g 0) order) values (vectors_in (map (λ (g : ℕ). get_or (sizes b) g 0) order) values m)
      ∙ length-map order (λ (g : ℕ). get_or (sizes b) g 0)
      ∙ o.long

  -- values in the order are a row within the sizes
  pub values_within : (values : List ℕ) → Memᴰ values (values_in b order) → within_sizes (sizes b) (by_group order values) ≡ true
  values_within values m =
      sym (within_order (by_group order values) (by_group_length order (length (firsts b)) o values))
      ∙ ap (within_sizes (map (λ (g : ℕ). get_or (sizes b) g 0) order)) (read_by_group order (length (firsts b)) o values (values_long values m))
      ∙ vectors_in (map (λ (g : ℕ). get_or (sizes b) g 0) order) values m

  -- a row within the sizes is read as values in the order
  pub row_values : (row : List ℕ) → within_sizes (sizes b) row ≡ true → Memᴰ (read_at order row) (values_in b order)
  row_values row w =
      in_vectors (map (λ (g : ℕ). get_or (sizes b) g 0) order) (read_at order row) (within_order row (within_length (sizes b) row w ∙ sizes_long b) ∙ w)

  -- values in the order give each row within the sizes once, and no other
  pub rows_once : (row : List ℕ) → count (same row) (map (by_group order) (values_in b order)) ≡ bit (within_sizes (sizes b) row)
  rows_once row = counts_map (same row) (by_group order) (values_in b order) ∙ go (decided (eqb (length row) (length (firsts b))))
    where
      agree : length row ≡ length (firsts b) → (values : List ℕ) → Memᴰ values (values_in b order)
          → same row (by_group order values) ≡ same (read_at order row) values
      agree h values m =
          same_test (same row (by_group order values)) (same (read_at order row) values)
          (λ e. rw (ap (read_at order) (same_equal row (by_group order values) e) ∙ read_by_group order (length (firsts b)) o values (values_long values m))
          (same_self values))
          (λ e. rw (← same_equal (read_at order row) values e, by_group_of_read order (length (firsts b)) o row h) (same_self row))

      longer : (length row ≡ length (firsts b) → ⊥) → within_sizes (sizes b) row ≡ false
      longer f = out (decided (within_sizes (sizes b) row))
        where
          out : Decided (within_sizes (sizes b) row) → within_sizes (sizes b) row ≡ false
          out (inl w) = absurd (f (within_length (sizes b) row w ∙ sizes_long b))
          out (inr w) = w

      other : (length row ≡ length (firsts b) → ⊥) → (values : List ℕ) → Decided (same row (by_group order values)) → same row (by_group order values) ≡ false
      other f values (inl e) =
          absurd (f (ap (λ (l : List ℕ). length l) (same_equal row (by_group order values) e) ∙ by_group_length order (length (firsts b)) o values))
      other f values (inr e) = e

      go : Decided (eqb (length row) (length (firsts b)))
          → count (λ values. same row (by_group order values)) (values_in b order) ≡ bit (within_sizes (sizes b) row)
      go (inl e) =
          let h : length row ≡ length (firsts b) = eqb-true (length row) (length (firsts b)) e in
          counts_ext (λ values. same row (by_group order values)) (same (read_at order row)) (values_in b order) (agree h)
          ∙ vectors_once (map (λ (g : ℕ). get_or (sizes b) g 0) order) (read_at order row)
          ∙ ap bit (within_order row h)
      go (inr e) =
          let f : length row ≡ length (firsts b) → ⊥ = eqb-false (length row) (length (firsts b)) e in
          rw (longer f)
          (counts_zero (λ values. same row (by_group order values)) (values_in b order)
          (λ values _. other f values (decided (same row (by_group order values)))))

  -- and those that solve the block once too
  pub solved_rows_once : (row : List ℕ)
      → count (same row) (keep (solves b) (map (by_group order) (values_in b order))) ≡ bit (within_sizes (sizes b) row && solves b row)
  solved_rows_once row =
      count_same_kept (solves b) row (map (by_group order) (values_in b order)) ∙ rw (rows_once row) (both (within_sizes (sizes b) row) (solves b row))
    where
      both : (w s : Bool) → cond s (bit w) 0 ≡ bit (w && s)
      both true true = refl
      both true false = refl
      both false true = refl
      both false false = refl

-- ---- the solutions

module _ (b : Block) (proper : Proper b) where
  -- the order by weight has each group once
  pub weighed_each_once : EachOnce (weighed b) (length (firsts b))
  unfolding weighed
  weighed_each_once =
      by_weight_each_once (λ (g : ℕ). get_or (column b (get_or (firsts b) g 0)) 0 0) (length (firsts b)) (length b.equations) (first_equation b proper)

  -- a row within the sizes that solves is one
  pub in_solutions : (row : List ℕ) → within_sizes (sizes b) row ≡ true → solves b row ≡ true → Memᴰ row (solutions b)
  unfolding solutions
  in_solutions row w s =
      let back : by_group (weighed b) (read_at (weighed b) row) ≡ row =
      by_group_of_read (weighed b) (length (firsts b)) weighed_each_once row (within_length (sizes b) row w ∙ sizes_long b) in
      in_kept (solves b) (map (by_group (weighed b)) (values_in b (weighed b)))
      (Memᴰ.cast (sym back) (Memᴰ.map (by_group (weighed b)) (row_values b (weighed b) weighed_each_once row w))) s

  -- and there is no other
  pub solutions_in : (row : List ℕ) → Memᴰ row (solutions b) → (within_sizes (sizes b) row ≡ true) × (solves b row ≡ true)
  unfolding solutions
  solutions_in row m =
      let (n, s) = kept_in (solves b) (map (by_group (weighed b)) (values_in b (weighed b))) row m in
      let (values, v, e) = Memᴰ.of_map (by_group (weighed b)) (values_in b (weighed b)) n in
      (rw (← e) (values_within b (weighed b) weighed_each_once values v), s)

  -- each stands once
  pub solutions_once : (row : List ℕ) → count (same row) (solutions b) ≡ bit (within_sizes (sizes b) row && solves b row)
  unfolding solutions
  solutions_once row = solved_rows_once b (weighed b) weighed_each_once row

  -- read in the order of weights they are in lexicographic order
  pub solutions_in_order : is_in_order (map (read_at (weighed b)) (solutions b)) ≡ true
  unfolding solutions
  solutions_in_order = rw read (in_order_keep solved (values_in b (weighed b)) (vectors_in_order (map (λ (g : ℕ). get_or (sizes b) g 0) (weighed b))))
    where
      solved : List ℕ → Bool
      solved values = solves b (by_group (weighed b) values)

      read : map (read_at (weighed b)) (keep (solves b) (map (by_group (weighed b)) (values_in b (weighed b)))) ≡ keep solved (values_in b (weighed b))
      read =
          ap (map (read_at (weighed b))) (keep_map (by_group (weighed b)) (solves b) (values_in b (weighed b)))
          ∙ map-map (read_at (weighed b)) (by_group (weighed b)) (keep solved (values_in b (weighed b)))
          ∙ map_agree (λ values. read_at (weighed b) (by_group (weighed b) values)) (λ values. values) (keep solved (values_in b (weighed b)))
          (λ values m. read_by_group (weighed b) (length (firsts b)) weighed_each_once values
          (values_long b (weighed b) weighed_each_once values (kept_in solved (values_in b (weighed b)) values m).0))
          ∙ map-id (keep solved (values_in b (weighed b)))
