-- cal_all_solution as a call on a position (SPECIFICATION 11, and refusals 8 and 9 of 3.1): the table of one block of the fresh frontier. Its rows stand at the
-- front of the lent table, one after another, a byte for each group; the bytes past the last row keep their values, and a refusal leaves all. Assumes nothing.
use Rattle.std.specs.Prelude.{Bool, cond, List, [], ◌∷◌, ℕ, ◌*◌, leb, ltb, length, get_or, take, drop, Result, Ok, Err}
use Rattle.std.proofs.lemmas.List.Edits.{sets}
use Rattle.lists.specs.Lists.{joined}
use Rattle.grid.specs.Window.{neighbours}
use Rattle.refusals.specs.declared.Refusal.{Refusal}
use Rattle.refusals.specs.declared.Refusal.TheVariants as refusal
use Rattle.refusals.specs.Refusals.{Tested, refusal_number}
use Rattle.refusals.specs.Tests.{position_tested}
use Rattle.blocks.specs.Blocks.{Block}
use Rattle.frontier.specs.Frontier.{frontier}
use Rattle.groups.specs.Groups.{firsts}
use Rattle.search.specs.Solutions.{solutions}
use Rattle.tables.specs.declared.TableAnswer.{TableAnswer}

-- the answer with these counts
abbrev pub table_with : (solutions groups : ℕ) → Result TableAnswer Refusal
table_with solutions groups = Ok (record { solutions = solutions; groups = groups })

-- the number of an answer (SPECIFICATION 3.1): 0, or the refusal's
abbrev pub table_number : Result TableAnswer Refusal → ℕ
table_number (Err r) = refusal_number r
table_number (Ok a) = 0

-- and its values: solutions, groups; a refusal has none
abbrev pub table_values : Result TableAnswer Refusal → List ℕ
table_values (Err r) = []
table_values (Ok a) = a.solutions ∷ a.groups ∷ []

-- the values by their names
abbrev pub table_solutions : Result TableAnswer Refusal → ℕ
table_solutions a = get_or (table_values a) 0 0

abbrev pub table_groups : Result TableAnswer Refusal → ℕ
table_groups a = get_or (table_values a) 1 0

-- what the caller sees after the call: the answer, and the lent table
pub record TableSeen : Type 0 where
  pub answer : Result TableAnswer Refusal
  pub table : List ℕ

abbrev pub table_seen : Result TableAnswer Refusal → List ℕ → TableSeen
table_seen a t = record { answer = a; table = t }

-- the row at place i of a table whose rows are g wide: of 0 1 0 1 0 1 0 0 and g = 3, the row at place 1 is 1 0 1
abbrev pub row_at : ℕ → List ℕ → ℕ → List ℕ
row_at g t i = take g (drop (i * g) t)

-- a refusal leaves the table as it was
abbrev pub table_refused : Refusal → List ℕ → TableSeen
table_refused r t = table_seen (Err r) t

-- the table of a block: refusal 9 where solutions × groups exceeds the lent table's length, else the two counts and the rows
unfoldable pub table_of : Block → List ℕ → TableSeen
table_of b t =
    cond (leb (length (solutions b) * length (firsts b)) (length t))
    (table_seen (table_with (length (solutions b)) (length (firsts b))) (sets t 0 (joined (solutions b))))
    (table_refused refusal.Table t)

-- the block asked for, by its number: refusal 8 where it isn't below the block count
unfoldable pub block_asked : List Block → ℕ → List ℕ → TableSeen
block_asked bs n t = cond (ltb n (length bs)) (table_of (get_or bs n (record { cells = []; equations = [] })) t) (table_refused refusal.Block t)

-- refusals 1 to 3 first
abbrev pub table_after_tests : Tested → TableSeen → List ℕ → TableSeen
table_after_tests (Ok _) w t = w
table_after_tests (Err r) w t = table_refused r t

unfoldable pub cal_all_solution : Bool → ℕ → ℕ → List ℕ → ℕ → List ℕ → TableSeen
cal_all_solution edgeless rows columns p n t = table_after_tests (position_tested rows columns p) (block_asked (frontier (neighbours edgeless rows columns) p) n t) t
