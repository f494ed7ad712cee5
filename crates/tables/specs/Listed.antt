-- What a call of cal_all_solution means to its caller, in Rattle and in C (SPECIFICATION 1.3, 3.1, 11). The front of the table after an
-- accepted call is the solutions of the block asked for, a row of a byte per group for each: every solution once, in the order of the groups' weights. Throughout, p is
-- the position, k the number of the block asked for, t the table as it was lent and t' the table after the call; `number` is 0 or the refusal's number, n counts
-- the solutions and g the groups. Assumes nothing.
use Rattle.refusals.specs.Refusals.{Accepted}
use Rattle.std.specs.Prelude.{◌≡◌, ◌≢◌, ◌↔◌, Bool, true, List, [], map, ℕ, ◌*◌, ◌≤◌, ◌<◌, length, get_or}
use Rattle.lists.specs.Lists.{range}
use Rattle.grid.specs.Window.{neighbours}
use Rattle.refusals.specs.Tests.{position_tested}
use Rattle.blocks.specs.Blocks.{Block}
use Rattle.frontier.specs.Frontier.{frontier}
use Rattle.groups.specs.Groups.{firsts}
use Rattle.search.specs.Solutions.{weighed, solutions}
use Rattle.search.specs.TableRows.{SolutionRow, read_at, is_in_order}
use Rattle.tables.specs.Tables.{row_at}

-- the block asked for: the one with this number in the position's frontier
abbrev pub asked_block : Bool → ℕ → ℕ → List ℕ → ℕ → Block
asked_block edgeless rows columns p k = get_or (frontier (neighbours edgeless rows columns) p) k (record { cells = []; equations = [] })

-- what nothing is refused for
pub record Accepts (edgeless : Bool) (rows columns : ℕ) (p : List ℕ) (k : ℕ) (t : List ℕ) : Type 0 where
  -- refusals 1 to 3: size, length and cells are as they should be
  pub tests : position_tested rows columns p ≡ Accepted
  -- 8: the block asked for is below the block count
  pub there : k < length (frontier (neighbours edgeless rows columns) p)
  -- 9: solutions × groups is within the lent table's length
  pub room : length (solutions (asked_block edgeless rows columns p k)) * length (firsts (asked_block edgeless rows columns p k)) ≤ length t

-- the table of a block
pub record ListedTable (b : Block) (t t' : List ℕ) (n g : ℕ) : Type 0 where
  -- a byte per group
  pub width : g ≡ length (firsts b)
  -- there is room for all rows
  pub room : n * g ≤ length t
  -- each row is a solution: a mine count from 0 to its size for each group, with which each equation has its remainder
  pub each_solves : (i : ℕ) → i < n → SolutionRow b (row_at g t' i)
  -- the table lists every solution
  pub all_there : (row : List ℕ) → SolutionRow b row → (i : ℕ) × (i < n) × (row_at g t' i ≡ row)
  -- once
  pub once : (i j : ℕ) → i < n → j < n → row_at g t' i ≡ row_at g t' j → i ≡ j
  -- its rows are in order, groups first met in later equations weighing more, and within one equation the earlier group
  pub in_order : is_in_order (map (read_at (weighed b)) (map (row_at g t') (range 0 n))) ≡ true
  -- the table is as long as before
  pub same_length : length t' ≡ length t
  -- bytes past the last solution keep their values
  pub kept : (i : ℕ) → n * g ≤ i → get_or t' i 0 ≡ get_or t i 0

-- all that holds of a call, on a board of so many rows and columns
pub record TableCall (edgeless : Bool) (rows columns : ℕ) (p : List ℕ) (k : ℕ) (t : List ℕ) (number n g : ℕ) (t' : List ℕ) : Type 0 where
  -- it is accepted exactly when there is nothing to refuse it for
  pub accepted : (number ≡ 0) ↔ Accepts edgeless rows columns p k t
  -- an accepted call lists the solutions of the block asked for
  pub lists : number ≡ 0 → ListedTable (asked_block edgeless rows columns p k) t t' n g
  -- a refused call leaves the table untouched
  pub table_kept : number ≢ 0 → t' ≡ t
