-- Cited by no public contract. The struct that the code keeps of a block over its groups, and the blocks for which it does. Assumes nothing.
use Rattle.std.specs.Prelude.{◌≡◌, true, false, cond, ◌&&◌, map, ℕ, ◌-◌, ◌≤◌, leb, ltb, length}
use Rattle.lists.specs.Lists.{range, any, all, empty, has, nodup, joined, pad}
use Rattle.blocks.specs.Blocks.{BlockEquation, Block}
use Rattle.groups.specs.Groups.{column, firsts, group_of_cell, sizes}
use Rattle.groups.specs.declared.Grouped.{Grouped}

-- a block as a frontier has them: cells and equations, none twice and inside the block; an equation has at most eight cells and a remainder of at most 8,
-- and a cell stands in one to eight equations
pub record Combinable (b : Block) : Type 0 where
  pub some : empty b.cells ≡ false
  pub few_cells : length b.cells ≤ 1024
  pub few_equations : length b.equations ≤ 1024
  pub below : all (λ c. ltb c 1024) b.cells ≡ true
  pub once : nodup b.cells ≡ true
  pub inside : all (λ (e : BlockEquation). all (has b.cells) e.cells) b.equations ≡ true
  pub equations_once : all (λ (e : BlockEquation). nodup e.cells) b.equations ≡ true
  pub equations_small : all (λ (e : BlockEquation). leb (length e.cells) 8 && leb e.rest 16) b.equations ≡ true
  pub columns_small : all (λ c. leb 1 (length (column b c)) && leb (length (column b c)) 8) b.cells ≡ true

-- what combine answers: by group its first cell, its size and its column; by cell of the board its group; by equation what it needs and how many cells it has
unfoldable pub grouped : Block → Grouped
grouped b = record {
  groups = length (firsts b);
  equations = length b.equations;
  firsts = pad 1024 0 (firsts b);
  sizes = pad 1024 0 (sizes b);
  columns = pad 8192 65535 (joined (map (λ (c : ℕ). pad 8 65535 (column b c)) (firsts b)));
  group_of = map (λ (c : ℕ). cond (has b.cells c) (group_of_cell b c) 0) (range 0 1024);
  needs = pad 1024 0 (map (λ (e : BlockEquation). e.rest - 8) b.equations);
  rooms = pad 1024 0 (map (λ (e : BlockEquation). length e.cells) b.equations);
  negative = any (λ (e : BlockEquation). ltb e.rest 8) b.equations;
}
