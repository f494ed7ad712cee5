-- Cited by no public contract. The structs of rules: what a rule on blocks answers, its two lists alone, and what the two sweeps of the direct rule list.
-- Assumes nothing.
use Rattle.std.specs.Prelude.{◌≡◌, cond, List, [], ℕ, Result, Ok, Err}
use Rattle.blocks.specs.Blocks.{BlockEquation}
use Rattle.blocks.specs.BlockSets.{block_set, blocks_of}
use Rattle.blocks.specs.Places.{Marks}
use Rattle.marks.specs.CellLists.{cell_list, list_in, Appended}
use Rattle.direct.specs.Found.{Found, contradicted, found}
use Rattle.direct.specs.Direct.{sure_mines, sure_safe}
use Rattle.direct.specs.declared.answer.RuleAnswer.{RuleAnswer}
use Rattle.direct.specs.declared.answer.Contradiction.{Contradiction}
use Rattle.direct.specs.declared.answer.Lists.{Lists}
use Rattle.direct.specs.declared.direct.Swept.{Swept}

-- the struct that holds two lists
unfoldable pub lists_of : (safe mines : List ℕ) → Lists
lists_of safe mines = record { safe = cell_list safe; mines = cell_list mines }

-- what the code answers where a rule found this: the contradiction alone, or a struct that holds the lists and the blocks left
unfoldable pub rule_answer : Found → Result RuleAnswer Contradiction
rule_answer f = cond f.contradiction (Err (record {})) (Ok (record { lists = lists_of f.safe f.mines; left = block_set f.left }))

-- what the two sweeps find in equations
abbrev pub swept_lists : List BlockEquation → Lists
swept_lists es = lists_of (sure_safe es) (sure_mines es)

-- the lists of an answer; a contradiction has no cell in them
abbrev pub lists_in : Result RuleAnswer Contradiction → Lists
lists_in (Ok r) = r.lists
lists_in (Err e) = lists_of [] []

-- back: what the answer holds
unfoldable pub found_in : Result RuleAnswer Contradiction → Found
found_in (Ok r) = found (list_in r.lists.safe) (list_in r.lists.mines) (blocks_of r.left)
found_in (Err e) = contradicted

-- the third pair of lists is the first, each list with that of the second behind it
abbrev pub AppendedLists : Lists → Lists → Lists → Type 0
AppendedLists a b r = Appended a.safe b.safe r.safe × Appended a.mines b.mines r.mines

-- the cells that the two sweeps over equations find, marked and in lists
pub record Sweeps (es : List BlockEquation) (r : Swept) : Type 0 where
  pub safe_marked : Marks r.safe_marks (sure_safe es)
  pub safe_are : r.lists.safe ≡ cell_list (sure_safe es)
  pub mines_marked : Marks r.mine_marks (sure_mines es)
  pub mines_are : r.lists.mines ≡ cell_list (sure_mines es)
