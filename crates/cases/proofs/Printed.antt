-- The printed example (SPECIFICATION 5.4), as a theorem: what the program prints for its three records. By computing the definitions. Assumes nothing.
use mathlib.Core.Path.{◌≡◌, refl}
use mathlib.Core.List.{List, [], ◌∷◌}
use Prim.Native.Nat.{ℕ}
use Rattle.lists.specs.Lists.{rotated}
use Rattle.grid.specs.Window.{around, neighbours}
use Rattle.refusals.specs.Tests.{size_ok, length_ok, room_ok, board_cells_ok, position_cells_ok, start_ok, numbers_ok, start_cell, start_safe, board_tested, position_tested, deduction_tested}
use Rattle.fitting.specs.Passes.{or_else, open_cells, pass, all_open, judge}
use Rattle.sources.specs.Sources.{sources}
use Rattle.frontier.specs.Frontier.{block_of, frontier}
use Rattle.chunks.specs.Chunks.{chunk_matrix, chunk_matrixes}
use Rattle.direct.specs.Direct.{sure_mines, sure_safe, direct_left, direct}
use Rattle.subtraction.specs.Minus.{minus_mines, minus_safe, minus_left, subtraction}
use Rattle.groups.specs.Groups.{firsts, groups, sizes, groups_in}
use Rattle.search.specs.Solutions.{weighed, solutions}
use Rattle.enumeration.specs.Enumeration.{safe_cells, mine_cells, enumerated}
use Rattle.rounds.specs.Rounds.{rounds_of, judge_rounds}
use Rattle.verdict.specs.Verdict.{is_solvable}
use Rattle.text.specs.Text.{decimal}
use Rattle.records.specs.Records.{record_length, record_of}
use Rattle.record_lines.specs.Answers.{verdict_text, line_text, picture_size, board_verdict}
use Rattle.run.specs.Run.{verdicts, text_from, printed}

-- `4D 42 01 03 00 02 FF 01 00`, `4D 42 01 03 00 00 01 FF 01`, `4D 42 00 01 00 00`
abbrev pub example_input : List ℕ
example_input = 77 ∷ 66 ∷ 1 ∷ 3 ∷ 0 ∷ 2 ∷ 255 ∷ 1 ∷ 0 ∷ 77 ∷ 66 ∷ 1 ∷ 3 ∷ 0 ∷ 0 ∷ 1 ∷ 255 ∷ 1 ∷ 77 ∷ 66 ∷ 0 ∷ 1 ∷ 0 ∷ 0 ∷ []

-- `board verdict opened grade rounds`, `1 yes 2 0 0`, `2 no 1 4 1`, `3 refused 1`, a line each
abbrev pub example_output : List ℕ
example_output =
    98 ∷ 111 ∷ 97 ∷ 114 ∷ 100 ∷ 32 ∷ 118 ∷ 101 ∷ 114 ∷ 100 ∷ 105 ∷ 99 ∷ 116 ∷ 32 ∷ 111 ∷ 112 ∷ 101 ∷ 110 ∷ 101 ∷ 100 ∷ 32 ∷ 103 ∷ 114 ∷ 97 ∷ 100 ∷ 101 ∷ 32 ∷ 114 ∷ 111
    ∷ 117 ∷ 110 ∷ 100 ∷ 115 ∷ 10
    ∷ 49 ∷ 32 ∷ 121 ∷ 101 ∷ 115 ∷ 32 ∷ 50 ∷ 32 ∷ 48 ∷ 32 ∷ 48 ∷ 10
    ∷ 50 ∷ 32 ∷ 110 ∷ 111 ∷ 32 ∷ 49 ∷ 32 ∷ 52 ∷ 32 ∷ 49 ∷ 10
    ∷ 51 ∷ 32 ∷ 114 ∷ 101 ∷ 102 ∷ 117 ∷ 115 ∷ 101 ∷ 100 ∷ 32 ∷ 49 ∷ 10 ∷ []

pub example_printed : printed example_input ≡ example_output
unfolding around neighbours size_ok length_ok room_ok board_cells_ok position_cells_ok start_ok numbers_ok start_cell start_safe board_tested position_tested deduction_tested all_open rotated sources block_of frontier chunk_matrix chunk_matrixes sure_mines sure_safe direct_left direct minus_mines minus_safe minus_left subtraction firsts groups sizes groups_in weighed solutions safe_cells mine_cells enumerated or_else open_cells pass judge rounds_of judge_rounds is_solvable record_length record_of picture_size verdict_text line_text board_verdict decimal verdicts text_from printed
example_printed = refl
