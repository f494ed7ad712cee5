-- What combine answers is the block over its groups: the groups that the arrays have by the columns in an array are those of the block, and the columns of their
-- first cells, copied one after another, are the groups' columns. Rests on the laws of a block's columns and of groups. Assumes nothing.
use mathlib.Core.Path.{◌≡◌, sym, ap, ◌∙◌}
use mathlib.Core.Bool.{Bool, true}
use mathlib.Core.List.{List, [], map, map-map}
use Prim.Native.Nat.{ℕ, ◌-◌, ◌≤◌}
use native.Mathlib.Omega.{arith}
use lib.Dec.{ltb, eqb}
use lib.ListN.{length, take, replicate}
use lib.Seq.{sets}
use borrow.Author.Tests.{ltb-true, eq-eqb}
use Rattle.lists.specs.Lists.{keep, any, all, has, joined, pad}
use Rattle.lists.proofs.All.{all_has, has_all}
use Rattle.lists.proofs.Arrays.{pad_nil, length_pad}
use Rattle.lists.proofs.Joined.{map_ext, length_joined, pad_sets}
use Rattle.blocks.specs.Blocks.{BlockEquation, Block}
use Rattle.blocks.specs.BlockSets.{slot_cells}
use Rattle.blocks.specs.Places.{cells_from, equations_from, block_from}
use Rattle.blocks.specs.declared.Bounds.{Bounds}
use Rattle.groups.specs.Groups.{column, alike, add_firsts, firsts, groups, group_of_cell, sizes}
use Rattle.groups.specs.Grouping.{Combinable, grouped}
use Rattle.groups.specs.Combining.{ColumnsAre, column_in, alike_by, GroupsAre}
use Rattle.groups.specs.declared.Grouped.{Grouped}
use Rattle.groups.proofs.FirstsOfClasses.{same_equivalence, first_met_lem, firsts_of}
use Rattle.groups.proofs.GroupLaws.{alike_equivalence}
use Rattle.groups.proofs.GrownGroups.{groups_firsts, groups_few, groups_below, groups_ext}
use Rattle.groups.proofs.PassedEquations.{length_equations, need_of, room_of, is_negative}
use Rattle.groups.proofs.BlockColumns.{block_cells, block_equations, column_is, columns_few, alike_agrees}

-- two answers are equal where each part is
same_answer : {n n' k k' : ℕ} {f f' s s' c c' g g' a a' r r' : List ℕ} {t t' : Bool}
    → n ≡ n' → k ≡ k' → f ≡ f' → s ≡ s' → c ≡ c' → g ≡ g' → a ≡ a' → r ≡ r' → t ≡ t'
    → ◌≡◌ {A = Grouped} (record { groups = n; equations = k; firsts = f; sizes = s; columns = c; group_of = g; needs = a; rooms = r; negative = t })
    (record { groups = n'; equations = k'; firsts = f'; sizes = s'; columns = c'; group_of = g'; needs = a'; rooms = r'; negative = t' })
same_answer n k f s c g a r t = rw (n, k, f, s, c, g, a, r, t)

module _ (cells slots rests : List ℕ) (bounds : Bounds) (h : Combinable (block_from cells slots rests bounds))
    (columns : List ℕ) (are : ColumnsAre columns (column_in slots bounds.first_equation (bounds.end_equation - bounds.first_equation))) where
  abbrev b : Block
  b = block_from cells slots rests bounds

  -- the array of columns by cell has those of the block's cells
  column_held : (c : ℕ) → has b.cells c ≡ true → slot_cells columns c ≡ column b c
  column_held c e = are.at c (ltb-true c 1024 (all_has (λ d. ltb d 1024) b.cells h.below c e)) ∙ sym (column_is cells slots rests bounds c)

  module _ (n : ℕ) (first_cells group_sizes group_of_lem : List ℕ)
      (r : GroupsAre (alike_by columns) (cells_from cells bounds.first_cell bounds.end_cell) n first_cells group_sizes group_of_lem) where
    -- the groups are those of the block
    groups_are : GroupsAre (alike b) b.cells n first_cells group_sizes group_of_lem
    groups_are =
        groups_ext (λ c. ltb c 1024) (same_equivalence (slot_cells columns)) (alike b) (alike_agrees cells slots rests bounds h columns are) b.cells h.below
        (rw (← block_cells cells slots rests bounds) at r)

    pub first_cells_below : all (λ c. ltb c 1024) (take n first_cells) ≡ true
    first_cells_below = groups_below (alike_equivalence b) groups_are h.below

    pub few_groups : n ≤ 1024
    few_groups = omega (arith, groups_few (alike_equivalence b) groups_are, h.few_cells)

    abbrev fs : List ℕ
    fs = add_firsts (alike b) [] b.cells

    slots_whole : all (λ c. eqb (length (pad 8 65535 (column b c))) 8) fs ≡ true
    slots_whole =
        has_all (λ c. eqb (length (pad 8 65535 (column b c))) 8) fs
        (λ c e. eq-eqb (length (pad 8 65535 (column b c))) 8 (length_pad 8 65535 (column b c) (rw (column_is cells slots rests bounds c) (columns_few cells slots rests bounds h c))))

    -- the columns of the first cells, copied
    columns_copied : (out : List ℕ) → out ≡ sets (replicate 8192 65535) 0 (joined (map (λ (c : ℕ). pad 8 65535 (slot_cells columns c)) (take n first_cells)))
        → out ≡ pad 8192 65535 (joined (map (λ (c : ℕ). pad 8 65535 (column b c)) fs))
    columns_copied out is =
        let all_slots_lem = joined (map (λ (c : ℕ). pad 8 65535 (column b c)) fs) in
        let same : map (λ (c : ℕ). pad 8 65535 (slot_cells columns c)) (take n first_cells) ≡ map (λ (c : ℕ). pad 8 65535 (column b c)) fs =
        ap (map (λ (c : ℕ). pad 8 65535 (slot_cells columns c))) (groups_firsts (alike_equivalence b) groups_are)
        ∙ map_ext (λ (c : ℕ). pad 8 65535 (slot_cells columns c)) (λ (c : ℕ). pad 8 65535 (column b c)) fs
        (λ c e. ap (pad 8 65535) (column_held c (first_met_lem (alike b) (alike_equivalence b) (firsts_of (alike b) (alike_equivalence b) b.cells) c e))) in
        let few : length all_slots_lem ≤ 8192 =
        omega (arith, length_joined (λ (c : ℕ). pad 8 65535 (column b c)) 8 fs slots_whole, groups_are.counted, groups_few (alike_equivalence b) groups_are, h.few_cells) in
        is
        ∙ ap (λ (l : List (List ℕ)). sets (replicate 8192 65535) 0 (joined l)) same
        ∙ ap (λ (l : List ℕ). sets l 0 all_slots_lem) (pad_nil 8192 65535)
        ∙ pad_sets 8192 65535 [] all_slots_lem (omega arith)

    -- all together
    pub combined : (out needs rooms : List ℕ) (negative : Bool)
        → out ≡ sets (replicate 8192 65535) 0 (joined (map (λ (c : ℕ). pad 8 65535 (slot_cells columns c)) (take n first_cells)))
        → needs ≡ pad 1024 0 (map need_of (equations_from slots rests bounds.first_equation bounds.end_equation))
        → rooms ≡ pad 1024 0 (map room_of (equations_from slots rests bounds.first_equation bounds.end_equation))
        → negative ≡ any is_negative (equations_from slots rests bounds.first_equation bounds.end_equation)
        → record {
          groups = n;
          equations = bounds.end_equation - bounds.first_equation;
          firsts = first_cells;
          sizes = group_sizes;
          columns = out;
          group_of = group_of_lem;
          needs = needs;
          rooms = rooms;
          negative = negative;
        }
        ≡ grouped b
    unfolding grouped firsts groups group_of_cell sizes
    combined out needs rooms negative copied needed counted some =
        let each : group_sizes ≡ pad 1024 0 (sizes b) =
        groups_are.cells_each ∙ ap (pad 1024 0) (sym (map-map (λ (g : List ℕ). length g) (λ (c : ℕ). keep (alike b c) b.cells) fs)) in
        let equations = block_equations cells slots rests bounds in
        let long = length_equations slots rests bounds.first_equation bounds.end_equation in
        same_answer groups_are.counted (sym long ∙ ap length (sym equations)) groups_are.first_cells each (columns_copied out copied) groups_are.of_cell
        (needed ∙ ap (λ (l : List BlockEquation). pad 1024 0 (map need_of l)) (sym equations))
        (counted ∙ ap (λ (l : List BlockEquation). pad 1024 0 (map room_of l)) (sym equations))
        (some ∙ ap (any is_negative) (sym equations))
