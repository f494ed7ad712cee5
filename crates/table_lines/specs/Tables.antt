-- Cited by no public contract. The answers of cal_all_solution to a line: `blocks 2 [groups 3 solutions 2 rows 0 1 0 / 1 0 1] [refused 9]`, `refused 2`, or
-- `unreadable`. Each block of the position is asked for with a fresh table of 16,384 bytes, and its rows are read off the table's front as the caller sees it.
-- Assumes nothing.
use Rattle.std.specs.Prelude.{cond, List, [], ◌∷◌, ◌++◌, map, ℕ, ◌*◌, ◌≤◌, eqb, length, take, replicate, Result, Ok, Err}
use Rattle.grid.specs.Window.{flat}
use Rattle.lists.specs.Lists.{range, joined}
use Rattle.refusals.specs.declared.Refusal.{Refusal}
use Rattle.refusals.specs.Refusals.{refusal_number}
use Rattle.frontier.specs.declared.FrontierAnswer.{FrontierAnswer}
use Rattle.tables.specs.declared.TableAnswer.{TableAnswer}
use Rattle.tables.specs.Tables.{table_number, table_solutions, table_groups, TableSeen, row_at, cal_all_solution}
use Rattle.text.specs.Text.{decimal}
use Rattle.show.specs.Cells.{cells_text}
use Rattle.show.specs.Refusals.{refused_text}
use Rattle.lines.specs.declared.Line.{Line}
use Rattle.lines.specs.Lines.{line_of, answer_text}
use Rattle.frontier_lines.specs.Frontier.{answer_to}

-- ---- the rows of a table

-- the first s rows: 0 1 0 and 1 0 1
abbrev pub rows_of : List ℕ → ℕ → ℕ → List (List ℕ)
rows_of table g s = map (row_at g table) (range 0 s)

-- a row behind another: ` / 1 0 1`
abbrev pub next_row : List ℕ → List ℕ
next_row row = 32 ∷ 47 ∷ cells_text row

-- ` 0 1 0 / 1 0 1`, or ` -` where there is none
unfoldable pub rows_text : List (List ℕ) → List ℕ
rows_text [] = 32 ∷ 45 ∷ []
rows_text (row ∷ rows) = cells_text row ++ joined (map next_row rows)

-- ---- the table of a block

-- `groups 3`
abbrev pub groups_text : ℕ → List ℕ
groups_text g = (103 ∷ 114 ∷ 111 ∷ 117 ∷ 112 ∷ 115 ∷ 32 ∷ []) ++ decimal g

-- ` solutions 2`
abbrev pub solutions_text : ℕ → List ℕ
solutions_text s = (32 ∷ 115 ∷ 111 ∷ 108 ∷ 117 ∷ 116 ∷ 105 ∷ 111 ∷ 110 ∷ 115 ∷ 32 ∷ []) ++ decimal s

-- ` rows 0 1 0 / 1 0 1`
abbrev pub listed_text : List (List ℕ) → List ℕ
listed_text rows = (32 ∷ 114 ∷ 111 ∷ 119 ∷ 115 ∷ []) ++ rows_text rows

-- ` [refused 9]`
abbrev pub no_table_text : ℕ → List ℕ
no_table_text n = (32 ∷ 91 ∷ refused_text n) ++ (93 ∷ [])

-- ` [groups 3 solutions 2 rows 0 1 0 / 1 0 1]`
unfoldable pub table_text : Result TableAnswer Refusal → List ℕ → List ℕ
table_text a table =
    cond (eqb (table_number a) 0)
    ((32 ∷ 91 ∷ (groups_text (table_groups a) ++ (solutions_text (table_solutions a) ++ listed_text (rows_of table (table_groups a) (table_solutions a))))) ++ (93 ∷ []))
    (no_table_text (table_number a))

-- the rows that are answered stand inside the table
abbrev pub RowsWithin : Result TableAnswer Refusal → List ℕ → Type 0
RowsWithin a table = table_solutions a * table_groups a ≤ length table

-- what the caller sees, as text
abbrev pub seen_text : TableSeen → List ℕ
seen_text w = table_text w.answer w.table

-- the table of the block at place k
unfoldable pub block_table : ℕ → ℕ → List ℕ → ℕ → List ℕ
block_table rows columns p k = seen_text (cal_all_solution flat rows columns p k (replicate 16384 0))

-- ---- the tables of a position

-- `blocks 1 [groups 3 solutions 2 rows 0 1 0 / 1 0 1]`
unfoldable pub tables_text : ℕ → ℕ → List ℕ → ℕ → List ℕ
tables_text rows columns p n = (98 ∷ 108 ∷ 111 ∷ 99 ∷ 107 ∷ 115 ∷ 32 ∷ decimal n) ++ joined (map (block_table rows columns p) (range 0 n))

-- by what refresh_matrixs answers: it tells how many blocks there are
abbrev pub tables_after : Result FrontierAnswer Refusal → Line → List ℕ
tables_after (Err r) l = refused_text (refusal_number r)
tables_after (Ok a) l = tables_text l.rows l.columns (take l.len l.cells) a.blocks.blocks

-- the answers to a line: `blocks 0` where its position has no block
unfoldable pub table_line : List ℕ → List ℕ
table_line line = answer_text (λ l. tables_after (answer_to l) l) (line_of line)
