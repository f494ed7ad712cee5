-- Every line of the table holds, by computing the definitions that the contracts cite. Assumes nothing.
use mathlib.Core.Path.{◌≡◌, refl}
use mathlib.Core.Bool.{true}
use Rattle.lists.specs.Lists.{all, rotated}
use Rattle.grid.specs.Window.{around, neighbours}
use Rattle.refusals.specs.Tests.{size_ok, length_ok, room_ok, board_cells_ok, position_cells_ok, start_ok, numbers_ok, start_cell, start_safe, board_tested, position_tested, deduction_tested, pattern_tested, bbbv_tested}
use Rattle.fitting.specs.Layouts.{fits, free_in_every}
use Rattle.fitting.specs.Solver.{ask_among}
use Rattle.fitting.specs.Passes.{or_else, open_cells, pass, all_open, judge}
use Rattle.sources.specs.Sources.{sources}
use Rattle.frontier.specs.Frontier.{block_of, frontier, inside_cells, known_mines}
use Rattle.chunks.specs.Chunks.{chunk_matrix, chunk_matrixes}
use Rattle.direct.specs.Direct.{sure_mines, sure_safe, direct_left, direct}
use Rattle.subtraction.specs.Minus.{minus_mines, minus_safe, minus_left, subtraction}
use Rattle.groups.specs.Groups.{firsts, groups, sizes, groups_in}
use Rattle.search.specs.Solutions.{weighed, solutions}
use Rattle.enumeration.specs.Enumeration.{safe_cells, mine_cells, enumerated}
use Rattle.marks.specs.Written.{written}
use Rattle.deductions.specs.Answers.{after_found}
use Rattle.tables.specs.Tables.{table_of, block_asked, cal_all_solution}
use Rattle.rounds.specs.Rounds.{rounds_of, judge_rounds}
use Rattle.fitting.specs.ForcedCells.{mined_in_every, forced_cells}
use Rattle.verdict.specs.Verdict.{is_solvable, is_solvable_total}
use Rattle.patterns.specs.Shapes.{among_mines, framed, found_at, found_anywhere, found_in_corner, pattern_found}
use Rattle.patterns.specs.Answer.{unsolvable_structure}
use Rattle.bbbv.specs.Openings.{opens, is_first, openings, lone_cells, bbbv}
use Rattle.bbbv.specs.Answer.{cal_bbbv}
use Rattle.cases.specs.Table.{ends_with, holds, table}

pub all_cases : all holds table ≡ true
unfolding table holds ends_with around neighbours size_ok length_ok room_ok board_cells_ok position_cells_ok start_ok numbers_ok start_cell start_safe board_tested position_tested deduction_tested fits free_in_every ask_among all_open rotated sources block_of frontier inside_cells known_mines chunk_matrix chunk_matrixes sure_mines sure_safe direct_left direct minus_mines minus_safe minus_left subtraction written after_found pattern_tested among_mines framed found_at found_anywhere found_in_corner pattern_found unsolvable_structure firsts groups sizes groups_in weighed solutions safe_cells mine_cells enumerated table_of block_asked cal_all_solution or_else open_cells pass judge rounds_of judge_rounds is_solvable mined_in_every forced_cells is_solvable_total bbbv_tested opens is_first openings lone_cells bbbv cal_bbbv
all_cases = refl
