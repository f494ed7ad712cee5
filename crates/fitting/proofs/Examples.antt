-- The definitions, computed on small boards (SPECIFICATION 12): the solver, and the judge with the rule that tries every layout, without the mine total and
-- with it. The neighbours are those of `Rattle.grid`. Assumes nothing.
use mathlib.Core.Path.{◌≡◌, refl}
use mathlib.Core.Bool.{true, false}
use mathlib.Core.List.{[], ◌∷◌}
use Rattle.grid.specs.Window.{flat, neighbours, around}
use Rattle.fitting.specs.Layouts.{any_layout, of_total, fits, free_in_every}
use Rattle.fitting.specs.Solver.{ask_among, solved_among, solved}
use Rattle.fitting.specs.Passes.{open_cells, pass, all_open, ending, judge}
use Rattle.fitting.specs.ForcedCells.{mined_in_every, forced_cells}

-- ---- the solver

-- 1 255 1 / 1 1 1 from the cell 1,0 stays at one open cell, whatever is asked
solver_stays : solved (neighbours flat 2 3) (1 ∷ 255 ∷ 1 ∷ 1 ∷ 1 ∷ 1 ∷ []) 3 (0 ∷ 1 ∷ 2 ∷ 3 ∷ 4 ∷ 5 ∷ 9 ∷ []) ≡ 10 ∷ 10 ∷ 10 ∷ 1 ∷ 10 ∷ 10 ∷ []
unfolding neighbours around ask_among free_in_every fits
solver_stays = refl

-- 255 1 0 from its last cell: the mine is asked for before and after the 1 is open, and never opened
solver_leaves_the_mine : solved (neighbours flat 1 3) (255 ∷ 1 ∷ 0 ∷ []) 2 (0 ∷ 1 ∷ 0 ∷ []) ≡ 10 ∷ 1 ∷ 0 ∷ []
unfolding neighbours around ask_among free_in_every fits
solver_leaves_the_mine = refl

-- 0 1 255 / 0 1 1 / 0 0 0 from the cell 2,0: all the safe cells open, and the mine, asked for too, stays closed
solver_opens_all : solved (neighbours flat 3 3) (0 ∷ 1 ∷ 255 ∷ 0 ∷ 1 ∷ 1 ∷ 0 ∷ 0 ∷ 0 ∷ []) 6 (3 ∷ 4 ∷ 7 ∷ 0 ∷ 1 ∷ 8 ∷ 2 ∷ 5 ∷ [])
    ≡ 0 ∷ 1 ∷ 10 ∷ 0 ∷ 1 ∷ 1 ∷ 0 ∷ 0 ∷ 0 ∷ []
unfolding neighbours around ask_among free_in_every fits
solver_opens_all = refl

-- 1 255 1 from its first cell: the last cell, beside no open one, stays closed, and is opened where the total of one mine is known
solver_without_the_total : solved (neighbours flat 1 3) (1 ∷ 255 ∷ 1 ∷ []) 0 (0 ∷ 1 ∷ 2 ∷ []) ≡ 1 ∷ 10 ∷ 10 ∷ []
unfolding neighbours around ask_among free_in_every fits
solver_without_the_total = refl

solver_with_the_total : solved_among (neighbours flat 1 3) (of_total 1) (1 ∷ 255 ∷ 1 ∷ []) 0 (0 ∷ 1 ∷ 2 ∷ []) ≡ 1 ∷ 10 ∷ 1 ∷ []
unfolding neighbours around ask_among free_in_every fits
solver_with_the_total = refl

-- ---- the judge: answer, position, grade, rounds

-- 255 1 0 from its last cell: the flood from the 0 opens all
judge_floods : judge (neighbours flat 1 3) (255 ∷ 1 ∷ 0 ∷ []) (forced_cells (neighbours flat 1 3) any_layout 3) 2 ≡ ending true (10 ∷ 1 ∷ 0 ∷ []) 0 0
unfolding neighbours around judge open_cells all_open
judge_floods = refl

-- 1 255 1 from its first cell: the mine is found, and no safe cell; where the total of one mine is known, the last cell too, and all is open in one round
judge_stops : judge (neighbours flat 1 3) (1 ∷ 255 ∷ 1 ∷ []) (forced_cells (neighbours flat 1 3) any_layout 3) 0 ≡ ending false (1 ∷ 11 ∷ 10 ∷ []) 3 1
unfolding neighbours around judge open_cells pass all_open free_in_every mined_in_every forced_cells fits
judge_stops = refl

judge_goes_on : judge (neighbours flat 1 3) (1 ∷ 255 ∷ 1 ∷ []) (forced_cells (neighbours flat 1 3) (of_total 1) 5) 0 ≡ ending true (1 ∷ 11 ∷ 1 ∷ []) 5 1
unfolding neighbours around judge open_cells pass all_open free_in_every mined_in_every forced_cells fits
judge_goes_on = refl

-- 1 255 1 / 1 1 1 / 0 0 0 from the cell 2,0: the flood opens the last two rows, and one pass the two corners
judge_passes : judge (neighbours flat 3 3) (1 ∷ 255 ∷ 1 ∷ 1 ∷ 1 ∷ 1 ∷ 0 ∷ 0 ∷ 0 ∷ []) (forced_cells (neighbours flat 3 3) any_layout 3) 6
    ≡ ending true (1 ∷ 11 ∷ 1 ∷ 1 ∷ 1 ∷ 1 ∷ 0 ∷ 0 ∷ 0 ∷ []) 3 1
unfolding neighbours around judge open_cells pass all_open free_in_every mined_in_every forced_cells fits
judge_passes = refl
