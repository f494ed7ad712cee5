-- A block's equations over its groups: an equation has all cells of a group or none, so the groups are groups of the equations as the crate fitting has them,
-- and what an equation's groups have together is what its cells have. For a block as it should be (`Proper`). Rests on GroupLaws of the crate groups, and on Groups of the
-- crate fitting. Assumes nothing.
use mathlib.Core.Path.{◌≡◌, sym, ap, ◌∙◌}
use mathlib.Core.Bool.{Bool, true, cond}
use mathlib.Core.List.{[], map, Memᴰ}
use Prim.Native.Nat.{ℕ}
use lib.ListN.{length, get_or}
use Rattle.lists.specs.Lists.{count, has}
use Rattle.lists.proofs.Rearranged.{count_all}
use Rattle.fitting.proofs.Groups.{total, total_ext, Grouped, grouped_count}
use Rattle.blocks.specs.Blocks.{BlockEquation, Block}
use Rattle.blocks.proofs.ProperBlocks.{Proper, says_in}
use Rattle.groups.specs.Groups.{firsts, groups, group_of_cell, sizes, groups_in}
use Rattle.groups.proofs.GroupLaws.{size_at_lem, group_once, group_only, group_of_below, in_own_group, group_in_equation}
use Rattle.search.specs.Solutions.{sum}
use Rattle.search.proofs.Sums.{sum_kept}

module _ (b : Block) where
  -- an equation has the groups whose first cell it has
  abbrev pub uses_group : BlockEquation → ℕ → Bool
  uses_group e g = has e.cells (get_or (firsts b) g 0)

  -- a sum over them is a sum over all groups, of which the others give nothing
  pub equation_sum : (e : BlockEquation) (k : ℕ → ℕ)
      → sum (map k (groups_in b e)) ≡ total (length (firsts b)) (λ j. cond (uses_group e j) (k j) 0)
  unfolding groups_in
  equation_sum e k = sum_kept (uses_group e) k (length (firsts b))

  module _ (proper : Proper b) where
    -- the groups of a block as groups of its equations
    abbrev pub block_groups : Grouped (says_in b)
    block_groups = record {
      groups = length (firsts b);
      members = λ g. get_or (groups b) g [];
      group = group_of_cell b;
      uses = λ i g. uses_group i.0 g;
      once = group_once b proper.once;
      distinct = λ i. proper.equations_once i.0 i.1;
      group_of = group_only b;
      covered = λ i c h. let here = proper.within i.0 i.1 c h in (group_of_below b c here, in_own_group b c here);
      column = λ i g c h. group_in_equation b g c h i.0 i.1;
    }

    -- an equation has as many cells as its groups together
    pub equation_room : (e : BlockEquation) → Memᴰ e b.equations → sum (map (λ (g : ℕ). get_or (sizes b) g 0) (groups_in b e)) ≡ length e.cells
    equation_room e m =
        equation_sum e (λ (g : ℕ). get_or (sizes b) g 0)
        ∙ total_ext (length (firsts b)) (λ j. cond (uses_group e j) (get_or (sizes b) j 0) 0)
        (λ j. cond (uses_group e j) (count (λ _. true) (get_or (groups b) j [])) 0)
        (λ j l. ap (λ (n : ℕ). cond (uses_group e j) n 0) (size_at_lem b j ∙ sym (count_all (get_or (groups b) j []))))
        ∙ sym (grouped_count (says_in b) block_groups (λ _. true) (e, m))
        ∙ count_all e.cells
