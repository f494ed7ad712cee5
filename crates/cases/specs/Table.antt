-- Cited by no public contract. The small boards of SPECIFICATION 12: one table, each line with what is asked and what the answer must be. Boards are written
-- cell by cell, row after row. Assumes nothing.
use Rattle.std.specs.Prelude.{Bool, true, false, ◌&&◌, List, [], ◌∷◌, ◌++◌, ℕ, ◌+◌, ◌-◌, ◌*◌, eqb, length, replicate}
use Rattle.std.specs.Bool.{beq}
use Rattle.lists.specs.Lists.{range, every, bit, same}
use Rattle.grid.specs.Window.{flat, neighbours}
use Rattle.refusals.specs.Refusals.{tested_number}
use Rattle.refusals.specs.Tests.{board_tested, position_tested}
use Rattle.blocks.specs.Blocks.{BlockEquation, Block}
use Rattle.frontier.specs.Frontier.{frontier, inside_cells, known_mines}
use Rattle.direct.specs.Found.{Found}
use Rattle.direct.specs.Direct.{direct}
use Rattle.subtraction.specs.Minus.{subtraction}
use Rattle.enumeration.specs.Enumeration.{enumerated}
use Rattle.deductions.specs.Answers.{Seen, safe_count, mine_count, deduction}
use Rattle.tables.specs.Tables.{table_number, table_values, TableSeen, cal_all_solution}
use Rattle.verdict.specs.Verdict.{verdict_number, verdict_values, VerdictSeen, is_solvable, is_solvable_total}
use Rattle.patterns.specs.Answer.{unsolvable_structure, pattern_number, pattern_values}
use Rattle.bbbv.specs.Answer.{cal_bbbv, bbbv_number, bbbv_values}
use Rattle.fitting.specs.Layouts.{any_layout, of_total}
use Rattle.fitting.specs.Boards.{mine_total}
use Rattle.fitting.specs.Solver.{ask_among, solved_among}
use Rattle.fitting.specs.Demand.{opened}
use Rattle.fitting.specs.Passes.{all_open}

-- a line of the table
pub data Case : Type 0 where
  -- a board of that size and start, lent a picture and rounds of its size: the number of the refusal, or 0
  tests_board : (rows columns row column : ℕ) → List ℕ → ℕ → Case
  -- a position of that size: the number of the refusal, or 0
  tests_position : (rows columns : ℕ) → List ℕ → ℕ → Case
  -- the frontier of a position: its blocks, its inside cells and its known mines
  frontier_read : (rows columns : ℕ) → List ℕ → List Block → (inside known : ℕ) → Case
  -- a rule called on a position: its safe cells and mines, the position after, and the blocks left
  deduced : (rule : List Block → Found) → (rows columns : ℕ) → List ℕ → (safe mines after : List ℕ) → List Block → Case
  -- or refusal 6, which leaves the position
  contradictory : (rule : List Block → Found) → (rows columns : ℕ) → List ℕ → Case
  -- the table of a block of a position, lent these bytes: the answer's number and its values, the counts of solutions and groups, and the bytes after
  tabulated : (rows columns : ℕ) → List ℕ → (block : ℕ) → (lent : List ℕ) → (number : ℕ) → (values after : List ℕ) → Case
  -- the verdict of a board from a start, lent zeros for the picture and the rounds: yes or no, opened cells, grade and rounds, the picture after, and the rounds of the cells
  judged : (rows columns row column : ℕ) → List ℕ → (answer : Bool) → (opened grade rounds : ℕ) → (after opened_in : List ℕ) → Case
  -- or the number of the refusal, which leaves both
  unjudged : (rows columns row column : ℕ) → List ℕ → (refusal : ℕ) → Case
  -- the same of a board that is lent so many sevens for the picture, and so many for the rounds
  mislent : (rows columns row column : ℕ) → List ℕ → (picture opened_in : ℕ) → (refusal : ℕ) → Case
  -- the verdict of a board that shows its mine total, the same way, and its refusal
  judged_total : (rows columns row column : ℕ) → List ℕ → (answer : Bool) → (opened grade rounds : ℕ) → (after opened_in : List ℕ) → Case
  unjudged_total : (rows columns row column : ℕ) → List ℕ → (refusal : ℕ) → Case
  -- the pattern call on a board: the answer's number and its value, 1 where a pattern is found
  pattern : (rows columns : ℕ) → List ℕ → (number : ℕ) → (values : List ℕ) → Case
  -- the 3BV call on a board: the answer's number and its value
  bbbv : (rows columns : ℕ) → List ℕ → (number : ℕ) → (values : List ℕ) → Case
  -- the solver of demand 3 on a board, from the cell s: its position when it is done, its open cells, and whether they are all the safe ones
  solver : (rows columns s : ℕ) → List ℕ → List ℕ → ℕ → Bool → Case
  -- the same of one who knows the board's mine total
  solver_total : (rows columns s : ℕ) → List ℕ → List ℕ → ℕ → Bool → Case

-- the solver, who goes by the layouts that pass a test, asks for every cell in turn, as often as there are cells, and then no ask changes the position
unfoldable pub ends_with : (List Bool → Bool) → ℕ → ℕ → ℕ → List ℕ → List ℕ → Bool
ends_with also rows columns s b p =
    same (solved_among (neighbours flat rows columns) also b s (range 0 (length b) ++ range 0 (length b))) p
    && every (length b) (λ c. same (ask_among (neighbours flat rows columns) also b p c) p)

-- two lists are equal, element by element by a test
abbrev same_by : {A : Type 0} → (A → A → Bool) → List A → List A → Bool
same_by eq [] [] = true
same_by eq [] (y ∷ k) = false
same_by eq (x ∷ l) [] = false
same_by eq (x ∷ l) (y ∷ k) = eq x y && same_by eq l k

abbrev same_equation : BlockEquation → BlockEquation → Bool
same_equation e f = eqb e.rest f.rest && same e.cells f.cells

abbrev same_block : Block → Block → Bool
same_block a b = same a.cells b.cells && same_by same_equation a.equations b.equations

-- a block, and an equation of a block with a remainder of n, or of n less than 0
abbrev block : List ℕ → List BlockEquation → Block
block cells equations = record { cells = cells; equations = equations }

abbrev equation : ℕ → List ℕ → BlockEquation
equation n cells = record { cells = cells; rest = 8 + n }

abbrev negative : ℕ → List ℕ → BlockEquation
negative n cells = record { cells = cells; rest = 8 - n }

-- what the caller of a rule sees, lent lists as long as the position
abbrev called : (List Block → Found) → ℕ → ℕ → List ℕ → Seen
called rule rows columns p = deduction rule flat rows columns p (replicate (length p) 0) (replicate (length p) 0)

-- a list holds these cells, and 0 behind them
abbrev list_holds : List ℕ → ℕ → List ℕ → Bool
list_holds slice n cells = eqb n (length cells) && same slice (cells ++ replicate (length slice - n) 0)

-- the table call's answer has this number and these values, and leaves these bytes
abbrev same_table : TableSeen → ℕ → List ℕ → List ℕ → Bool
same_table w n values after = eqb (table_number w.answer) n && (same (table_values w.answer) values && same w.table after)

-- the verdict has this number and these values, and leaves this picture and these rounds
abbrev same_verdict : VerdictSeen → ℕ → List ℕ → List ℕ → List ℕ → Bool
same_verdict w n values after opened_in =
    eqb (verdict_number w.answer) n && (same (verdict_values w.answer) values && (same w.shown after && same w.opened_in opened_in))

-- in the place of a round: the cell is closed
abbrev none : ℕ
none = 65535

-- the line holds
unfoldable pub holds : Case → Bool
holds (tests_board rows columns row column b n) = eqb (tested_number (board_tested flat rows columns row column b (rows * columns ∷ rows * columns ∷ []))) n
holds (tests_position rows columns p n) = eqb (tested_number (position_tested rows columns p)) n
holds (frontier_read rows columns p bs inside known) =
    same_by same_block (frontier (neighbours flat rows columns) p) bs
    && (eqb (inside_cells (neighbours flat rows columns) p) inside && eqb (known_mines p) known)
holds (deduced rule rows columns p safe mines after left) =
    (eqb (tested_number (called rule rows columns p).answer) 0 && same (called rule rows columns p).position after)
    && (list_holds (called rule rows columns p).safe (safe_count (called rule rows columns p).answer) safe
    && (list_holds (called rule rows columns p).mines (mine_count (called rule rows columns p).answer) mines
    && same_by same_block (rule (frontier (neighbours flat rows columns) p)).left left))
holds (contradictory rule rows columns p) =
    eqb (tested_number (called rule rows columns p).answer) 6
    && (same (called rule rows columns p).position p
    && (list_holds (called rule rows columns p).safe (safe_count (called rule rows columns p).answer) []
    && list_holds (called rule rows columns p).mines (mine_count (called rule rows columns p).answer) []))
holds (tabulated rows columns p block lent n values after) = same_table (cal_all_solution flat rows columns p block lent) n values after
holds (judged rows columns row column b answer n grade rounds after opened_in) =
    same_verdict (is_solvable flat rows columns row column b (replicate (length b) 0) (replicate (length b) 0)) 0 (bit answer ∷ n ∷ grade ∷ rounds ∷ []) after opened_in
holds (unjudged rows columns row column b n) =
    same_verdict (is_solvable flat rows columns row column b (replicate (length b) 0) (replicate (length b) 0)) n [] (replicate (length b) 0) (replicate (length b) 0)
holds (mislent rows columns row column b picture opened_in n) =
    same_verdict (is_solvable flat rows columns row column b (replicate picture 7) (replicate opened_in 7)) n [] (replicate picture 7) (replicate opened_in 7)
holds (pattern rows columns b n values) =
    eqb (pattern_number (unsolvable_structure rows columns b)) n && same (pattern_values (unsolvable_structure rows columns b)) values
holds (bbbv rows columns b n values) = eqb (bbbv_number (cal_bbbv flat rows columns b)) n && same (bbbv_values (cal_bbbv flat rows columns b)) values
holds (judged_total rows columns row column b answer n grade rounds after opened_in) =
    same_verdict (is_solvable_total rows columns row column b (replicate (length b) 0) (replicate (length b) 0)) 0 (bit answer ∷ n ∷ grade ∷ rounds ∷ []) after opened_in
holds (unjudged_total rows columns row column b n) =
    same_verdict (is_solvable_total rows columns row column b (replicate (length b) 0) (replicate (length b) 0)) n [] (replicate (length b) 0) (replicate (length b) 0)
holds (solver rows columns s b p n all) = ends_with any_layout rows columns s b p && (eqb (opened p) n && beq (all_open b p) all)
holds (solver_total rows columns s b p n all) = ends_with (of_total (mine_total b)) rows columns s b p && (eqb (opened p) n && beq (all_open b p) all)

unfoldable pub table : List Case
table =
    -- 1. position `1 10 10`: inside cells 1
    frontier_read 1 3 (1 ∷ 10 ∷ 10 ∷ []) (block (1 ∷ []) (equation 1 (1 ∷ []) ∷ []) ∷ []) 1 0
    -- direct finds mine 1
    ∷ deduced direct 1 3 (1 ∷ 10 ∷ 10 ∷ []) [] (1 ∷ []) (1 ∷ 11 ∷ 10 ∷ []) []
    ∷ deduced subtraction 1 3 (1 ∷ 10 ∷ 10 ∷ []) [] (1 ∷ []) (1 ∷ 11 ∷ 10 ∷ []) []
    ∷ deduced enumerated 1 3 (1 ∷ 10 ∷ 10 ∷ []) [] (1 ∷ []) (1 ∷ 11 ∷ 10 ∷ []) []
    -- 2. `0 10`: direct finds safe 1
    ∷ deduced direct 1 2 (0 ∷ 10 ∷ []) (1 ∷ []) [] (0 ∷ 12 ∷ []) []
    ∷ deduced subtraction 1 2 (0 ∷ 10 ∷ []) (1 ∷ []) [] (0 ∷ 12 ∷ []) []
    ∷ deduced enumerated 1 2 (0 ∷ 10 ∷ []) (1 ∷ []) [] (0 ∷ 12 ∷ []) []
    -- 3. `11 0 10`: remainder -1; direct refuses 6, and so do the direct pass of subtraction and enumeration, which finds no solution
    ∷ frontier_read 1 3 (11 ∷ 0 ∷ 10 ∷ []) (block (2 ∷ []) (negative 1 (2 ∷ []) ∷ []) ∷ []) 0 1
    ∷ contradictory direct 1 3 (11 ∷ 0 ∷ 10 ∷ [])
    ∷ contradictory subtraction 1 3 (11 ∷ 0 ∷ 10 ∷ [])
    ∷ contradictory enumerated 1 3 (11 ∷ 0 ∷ 10 ∷ [])
    ∷ tabulated 1 3 (11 ∷ 0 ∷ 10 ∷ []) 0 (7 ∷ []) 0 (0 ∷ 1 ∷ []) (7 ∷ [])
    -- 4. `10 1 10`: one equation over both cells; no rule finds a cell
    ∷ frontier_read 1 3 (10 ∷ 1 ∷ 10 ∷ []) (block (0 ∷ 2 ∷ []) (equation 1 (0 ∷ 2 ∷ []) ∷ []) ∷ []) 0 0
    ∷ deduced direct 1 3 (10 ∷ 1 ∷ 10 ∷ []) [] [] (10 ∷ 1 ∷ 10 ∷ []) (block (2 ∷ 0 ∷ []) (equation 1 (2 ∷ 0 ∷ []) ∷ []) ∷ [])
    ∷ deduced subtraction 1 3 (10 ∷ 1 ∷ 10 ∷ []) [] [] (10 ∷ 1 ∷ 10 ∷ []) (block (0 ∷ 2 ∷ []) (equation 1 (0 ∷ 2 ∷ []) ∷ []) ∷ [])
    ∷ deduced enumerated 1 3 (10 ∷ 1 ∷ 10 ∷ []) [] [] (10 ∷ 1 ∷ 10 ∷ []) []
    -- the table is one group, one row `1`; bytes past it stay, and there is no block 1
    ∷ tabulated 1 3 (10 ∷ 1 ∷ 10 ∷ []) 0 (7 ∷ 7 ∷ []) 0 (1 ∷ 1 ∷ []) (1 ∷ 7 ∷ [])
    ∷ tabulated 1 3 (10 ∷ 1 ∷ 10 ∷ []) 1 (7 ∷ 7 ∷ []) 8 [] (7 ∷ 7 ∷ [])
    -- 5. `10 1 10 1 10`: two equations that share a cell; table `0 1 0`, `1 0 1`
    ∷ frontier_read 1 5 (10 ∷ 1 ∷ 10 ∷ 1 ∷ 10 ∷ [])
    (block (0 ∷ 2 ∷ 4 ∷ []) (equation 1 (0 ∷ 2 ∷ []) ∷ equation 1 (2 ∷ 4 ∷ []) ∷ []) ∷ []) 0 0
    ∷ tabulated 1 5 (10 ∷ 1 ∷ 10 ∷ 1 ∷ 10 ∷ []) 0 (replicate 6 7) 0 (2 ∷ 3 ∷ []) (0 ∷ 1 ∷ 0 ∷ 1 ∷ 0 ∷ 1 ∷ [])
    ∷ tabulated 1 5 (10 ∷ 1 ∷ 10 ∷ 1 ∷ 10 ∷ []) 0 (replicate 5 7) 9 [] (replicate 5 7)
    -- 6. `10 10 10 / 1 1 1`: three equations, the others found from the last to the second
    ∷ frontier_read 2 3 (10 ∷ 10 ∷ 10 ∷ 1 ∷ 1 ∷ 1 ∷ [])
    (block (0 ∷ 1 ∷ 2 ∷ []) (equation 1 (0 ∷ 1 ∷ []) ∷ equation 1 (1 ∷ 2 ∷ []) ∷ equation 1 (0 ∷ 1 ∷ 2 ∷ []) ∷ []) ∷ []) 0 0
    -- direct finds nothing; subtraction gives safe 0, 2 and mine 1
    ∷ deduced direct 2 3 (10 ∷ 10 ∷ 10 ∷ 1 ∷ 1 ∷ 1 ∷ []) [] [] (10 ∷ 10 ∷ 10 ∷ 1 ∷ 1 ∷ 1 ∷ [])
    (block (2 ∷ 1 ∷ 0 ∷ []) (equation 1 (2 ∷ 1 ∷ 0 ∷ []) ∷ equation 1 (2 ∷ 1 ∷ []) ∷ equation 1 (1 ∷ 0 ∷ []) ∷ []) ∷ [])
    ∷ deduced subtraction 2 3 (10 ∷ 10 ∷ 10 ∷ 1 ∷ 1 ∷ 1 ∷ []) (0 ∷ 2 ∷ []) (1 ∷ []) (12 ∷ 11 ∷ 12 ∷ 1 ∷ 1 ∷ 1 ∷ []) []
    ∷ deduced enumerated 2 3 (10 ∷ 10 ∷ 10 ∷ 1 ∷ 1 ∷ 1 ∷ []) (0 ∷ 2 ∷ []) (1 ∷ []) (12 ∷ 11 ∷ 12 ∷ 1 ∷ 1 ∷ 1 ∷ []) []
    -- 7. its table is `0 1 0`; 2 bytes lent: refusal 9; 3 accepted
    ∷ tabulated 2 3 (10 ∷ 10 ∷ 10 ∷ 1 ∷ 1 ∷ 1 ∷ []) 0 (7 ∷ 7 ∷ []) 9 [] (7 ∷ 7 ∷ [])
    ∷ tabulated 2 3 (10 ∷ 10 ∷ 10 ∷ 1 ∷ 1 ∷ 1 ∷ []) 0 (7 ∷ 7 ∷ 7 ∷ []) 0 (1 ∷ 3 ∷ []) (0 ∷ 1 ∷ 0 ∷ [])
    -- 8. board `0`, start 0,0: yes, 1 opened; the solver opens it too
    ∷ judged 1 1 0 0 (0 ∷ []) true 1 0 0 (0 ∷ []) (0 ∷ [])
    ∷ solver 1 1 0 (0 ∷ []) (0 ∷ []) 1 true
    -- 9. 3 × 3, all mines but 0,0, start 0,0: yes, 1 opened
    ∷ judged 3 3 0 0 (3 ∷ replicate 8 255) true 1 0 0 (3 ∷ replicate 8 10) (0 ∷ replicate 8 none)
    ∷ solver 3 3 0 (3 ∷ replicate 8 255) (3 ∷ replicate 8 10) 1 true
    -- pattern found; below 3 rows it is refusal 1
    ∷ pattern 3 3 (3 ∷ replicate 8 255) 0 (1 ∷ [])
    ∷ pattern 2 3 (3 ∷ replicate 5 255) 1 []
    -- 10. `1 255 1 / 1 1 1`, start 1,0: no, 1 opened, grade 4
    ∷ judged 2 3 1 0 (1 ∷ 255 ∷ 1 ∷ 1 ∷ 1 ∷ 1 ∷ []) false 1 4 0 (10 ∷ 10 ∷ 10 ∷ 1 ∷ 10 ∷ 10 ∷ []) (none ∷ none ∷ none ∷ 0 ∷ none ∷ none ∷ [])
    ∷ solver 2 3 3 (1 ∷ 255 ∷ 1 ∷ 1 ∷ 1 ∷ 1 ∷ []) (10 ∷ 10 ∷ 10 ∷ 1 ∷ 10 ∷ 10 ∷ []) 1 false
    -- the boards of the printed example: `255 1 0` from its 0, and `1 255 1`, where the direct rule finds the mine and then nothing
    ∷ judged 1 3 0 2 (255 ∷ 1 ∷ 0 ∷ []) true 2 0 0 (10 ∷ 1 ∷ 0 ∷ []) (none ∷ 0 ∷ 0 ∷ [])
    ∷ judged 1 3 0 0 (1 ∷ 255 ∷ 1 ∷ []) false 1 4 1 (1 ∷ 10 ∷ 10 ∷ []) (0 ∷ none ∷ none ∷ [])
    -- Paper 2: the strongest rule is the direct one, subtraction, enumeration; judged yes, each board has the grade of its rule
    ∷ judged 3 3 0 0 (0 ∷ 0 ∷ 0 ∷ 1 ∷ 2 ∷ 2 ∷ 1 ∷ 255 ∷ 255 ∷ []) true 7 1 1 (0 ∷ 0 ∷ 0 ∷ 1 ∷ 2 ∷ 2 ∷ 1 ∷ 10 ∷ 10 ∷ [])
    (0 ∷ 0 ∷ 0 ∷ 0 ∷ 0 ∷ 0 ∷ 1 ∷ none ∷ none ∷ [])
    ∷ judged 3 3 0 0 (0 ∷ 0 ∷ 0 ∷ 1 ∷ 1 ∷ 1 ∷ 1 ∷ 255 ∷ 1 ∷ []) true 8 2 1 (0 ∷ 0 ∷ 0 ∷ 1 ∷ 1 ∷ 1 ∷ 1 ∷ 10 ∷ 1 ∷ [])
    (0 ∷ 0 ∷ 0 ∷ 0 ∷ 0 ∷ 0 ∷ 1 ∷ none ∷ 1 ∷ [])
    ∷ judged 3 3 0 0 (0 ∷ 1 ∷ 1 ∷ 1 ∷ 2 ∷ 255 ∷ 1 ∷ 255 ∷ 2 ∷ []) true 7 3 2 (0 ∷ 1 ∷ 1 ∷ 1 ∷ 2 ∷ 10 ∷ 1 ∷ 10 ∷ 2 ∷ [])
    (0 ∷ 0 ∷ 2 ∷ 0 ∷ 0 ∷ none ∷ 2 ∷ none ∷ 1 ∷ [])
    -- judged no, after subtraction and after enumeration: 4
    ∷ judged 3 3 0 0 (0 ∷ 1 ∷ 1 ∷ 2 ∷ 4 ∷ 255 ∷ 255 ∷ 255 ∷ 255 ∷ []) false 4 4 2 (0 ∷ 1 ∷ 10 ∷ 2 ∷ 4 ∷ 10 ∷ 10 ∷ 10 ∷ 10 ∷ [])
    (0 ∷ 0 ∷ none ∷ 0 ∷ 0 ∷ none ∷ none ∷ none ∷ none ∷ [])
    ∷ judged 3 3 0 0 (0 ∷ 1 ∷ 1 ∷ 1 ∷ 3 ∷ 255 ∷ 1 ∷ 255 ∷ 255 ∷ []) false 4 4 1 (0 ∷ 1 ∷ 10 ∷ 1 ∷ 3 ∷ 10 ∷ 10 ∷ 10 ∷ 10 ∷ [])
    (0 ∷ 0 ∷ none ∷ 0 ∷ 0 ∷ none ∷ none ∷ none ∷ none ∷ [])
    -- Paper 1: a pass that finds mines alone is a pass, so that no cell has the round 1
    ∷ judged 3 3 0 0 (0 ∷ 1 ∷ 1 ∷ 2 ∷ 3 ∷ 255 ∷ 255 ∷ 255 ∷ 2 ∷ []) true 6 2 3 (0 ∷ 1 ∷ 1 ∷ 2 ∷ 3 ∷ 10 ∷ 10 ∷ 10 ∷ 2 ∷ [])
    (0 ∷ 0 ∷ 3 ∷ 0 ∷ 0 ∷ none ∷ none ∷ none ∷ 2 ∷ [])
    -- a slice of rounds that is too short, too long, or empty is refused, and stays; so is a picture; 1 comes before that, 3 behind it
    ∷ mislent 1 3 0 2 (255 ∷ 1 ∷ 0 ∷ []) 3 2 2
    ∷ mislent 1 3 0 2 (255 ∷ 1 ∷ 0 ∷ []) 3 4 2
    ∷ mislent 1 3 0 2 (255 ∷ 1 ∷ 0 ∷ []) 3 0 2
    ∷ mislent 1 3 0 2 (255 ∷ 1 ∷ 0 ∷ []) 2 3 2
    ∷ mislent 1 3 0 2 (9 ∷ 1 ∷ 0 ∷ []) 3 2 2
    ∷ mislent 0 3 0 2 [] 0 2 1
    -- Paper 7: a start of 255,255 is off the board, with a 0 and without one; 1 and 3 come before it, 5 behind it
    ∷ unjudged 1 3 255 255 (255 ∷ 1 ∷ 0 ∷ []) 4
    ∷ unjudged 1 3 255 255 (1 ∷ 255 ∷ 1 ∷ []) 4
    ∷ unjudged 1 3 255 255 (1 ∷ 255 ∷ 0 ∷ []) 4
    ∷ unjudged 1 3 255 255 (9 ∷ 255 ∷ 0 ∷ []) 3
    ∷ unjudged 0 1 255 255 [] 1
    -- a start in the row or the column past the last
    ∷ unjudged 1 3 1 0 (255 ∷ 1 ∷ 0 ∷ []) 4
    ∷ unjudged 1 3 0 3 (255 ∷ 1 ∷ 0 ∷ []) 4
    -- Paper 9: a start on a mine is refused; 3 and 5 come before it
    ∷ unjudged 1 1 0 0 (255 ∷ []) 13
    ∷ unjudged 1 3 0 1 (1 ∷ 255 ∷ 1 ∷ []) 13
    ∷ unjudged 1 3 0 1 (9 ∷ 255 ∷ 1 ∷ []) 3
    ∷ unjudged 1 3 0 1 (1 ∷ 255 ∷ 0 ∷ []) 5
    -- Paper 8: with the mine total shown. `1 255 1`, a guess without it: yes, the safe cell off the frontier found by the total
    ∷ judged_total 1 3 0 0 (1 ∷ 255 ∷ 1 ∷ []) true 2 5 2 (1 ∷ 10 ∷ 1 ∷ []) (0 ∷ none ∷ 2 ∷ [])
    ∷ solver_total 1 3 0 (1 ∷ 255 ∷ 1 ∷ []) (1 ∷ 10 ∷ 1 ∷ []) 2 true
    -- safe cells away from the frontier come first, and a flood reaches the start's neighbour
    ∷ judged_total 1 5 0 1 (0 ∷ 1 ∷ 255 ∷ 1 ∷ 0 ∷ []) true 4 5 2 (0 ∷ 1 ∷ 10 ∷ 1 ∷ 0 ∷ []) (2 ∷ 0 ∷ none ∷ 1 ∷ 1 ∷ [])
    ∷ judged_total 3 3 2 1 (0 ∷ 0 ∷ 0 ∷ 0 ∷ 1 ∷ 1 ∷ 0 ∷ 1 ∷ 255 ∷ []) true 8 5 1 (0 ∷ 0 ∷ 0 ∷ 0 ∷ 1 ∷ 1 ∷ 0 ∷ 1 ∷ 10 ∷ [])
    (1 ∷ 1 ∷ 1 ∷ 1 ∷ 1 ∷ 1 ∷ 1 ∷ 0 ∷ none ∷ [])
    -- the total helps, and a guess stays: 4
    ∷ judged_total 2 3 1 0 (1 ∷ 255 ∷ 1 ∷ 1 ∷ 1 ∷ 1 ∷ []) false 4 4 2 (1 ∷ 10 ∷ 1 ∷ 1 ∷ 10 ∷ 1 ∷ []) (2 ∷ none ∷ 1 ∷ 0 ∷ none ∷ 1 ∷ [])
    ∷ solver_total 2 3 3 (1 ∷ 255 ∷ 1 ∷ 1 ∷ 1 ∷ 1 ∷ []) (1 ∷ 10 ∷ 1 ∷ 1 ∷ 10 ∷ 1 ∷ []) 4 false
    -- it does not help
    ∷ judged_total 1 3 0 1 (255 ∷ 1 ∷ 0 ∷ []) false 1 4 0 (10 ∷ 1 ∷ 10 ∷ []) (none ∷ 0 ∷ none ∷ [])
    -- a pass of mines alone, known by the total, is a round
    ∷ judged_total 1 5 0 2 (1 ∷ 255 ∷ 2 ∷ 255 ∷ 1 ∷ []) true 3 5 2 (1 ∷ 10 ∷ 2 ∷ 10 ∷ 1 ∷ []) (2 ∷ none ∷ 0 ∷ none ∷ 2 ∷ [])
    -- no mine, and mines on all cells but one
    ∷ judged_total 1 2 0 0 (0 ∷ 0 ∷ []) true 2 0 0 (0 ∷ 0 ∷ []) (0 ∷ 0 ∷ [])
    ∷ judged_total 2 2 0 0 (3 ∷ 255 ∷ 255 ∷ 255 ∷ []) true 1 0 0 (3 ∷ 10 ∷ 10 ∷ 10 ∷ []) (0 ∷ none ∷ none ∷ none ∷ [])
    -- the refusals are those of a plain board
    ∷ unjudged_total 1 3 0 1 (1 ∷ 255 ∷ 1 ∷ []) 13
    ∷ unjudged_total 1 3 0 1 (1 ∷ 255 ∷ 0 ∷ []) 5
    ∷ unjudged_total 1 3 255 255 (255 ∷ 1 ∷ 0 ∷ []) 4
    -- Paper 6: one opening; two apart; two that share a number; two zeros that meet at a corner are one opening
    ∷ bbbv 1 1 (0 ∷ []) 0 (1 ∷ [])
    ∷ bbbv 1 5 (0 ∷ 1 ∷ 255 ∷ 1 ∷ 0 ∷ []) 0 (2 ∷ [])
    ∷ bbbv 3 3 (0 ∷ 1 ∷ 255 ∷ 1 ∷ 2 ∷ 1 ∷ 255 ∷ 1 ∷ 0 ∷ []) 0 (2 ∷ [])
    ∷ bbbv 4 4 (255 ∷ 1 ∷ 0 ∷ 0 ∷ 1 ∷ 1 ∷ 0 ∷ 0 ∷ 0 ∷ 0 ∷ 1 ∷ 1 ∷ 0 ∷ 0 ∷ 1 ∷ 255 ∷ []) 0 (1 ∷ [])
    -- numbers that touch no zero: two beside an opening, and eight around a mine
    ∷ bbbv 1 6 (0 ∷ 1 ∷ 255 ∷ 2 ∷ 255 ∷ 1 ∷ []) 0 (3 ∷ [])
    ∷ bbbv 3 3 (1 ∷ 1 ∷ 1 ∷ 1 ∷ 255 ∷ 1 ∷ 1 ∷ 1 ∷ 1 ∷ []) 0 (8 ∷ [])
    -- a board of mines only
    ∷ bbbv 2 2 (replicate 4 255) 0 (0 ∷ [])
    -- the refusals, and of two the lower
    ∷ bbbv 33 1 (replicate 33 0) 1 []
    ∷ bbbv 1 3 (0 ∷ 0 ∷ []) 2 []
    ∷ bbbv 1 2 (9 ∷ 255 ∷ []) 3 []
    ∷ bbbv 1 2 (0 ∷ 255 ∷ []) 5 []
    -- 11. 32 rows accepted, 33 refusal 1
    ∷ tests_board 32 1 0 0 (replicate 32 0) 0
    ∷ tests_board 33 1 0 0 (replicate 33 0) 1
    ∷ unjudged 33 1 0 0 (replicate 33 0) 1
    ∷ tests_position 32 1 (replicate 32 10) 0
    ∷ tests_position 33 1 (replicate 33 10) 1
    ∷ []
