-- The two lists of the subtraction rule alone, as the code puts them together: its own (`Subtracts`), and behind them what the sweeps find in all that is left
-- of the equations, which are written into fresh arrays. Rests on the laws of equations in arrays and of all that subtraction leaves. Assumes nothing.
use mathlib.Core.Path.{◌≡◌, ap, ◌∙◌}
use mathlib.Core.Bool.{true}
use mathlib.Core.List.{List, map}
use Prim.Native.Nat.{ℕ, ◌+◌, ◌-◌, ◌*◌, ◌≤◌}
use native.Mathlib.Omega.{arith}
use lib.ListN.{length, replicate, length-map}
use lib.Seq.{sets}
use Rattle.lists.specs.Lists.{range, all, joined}
use Rattle.lists.proofs.Rearranged.{length_range}
use Rattle.blocks.specs.Blocks.{BlockEquation, Block}
use Rattle.blocks.specs.BlockSets.{slots_of, begin_at, blocks_of, small_equation, Whole}
use Rattle.blocks.specs.Places.{Slots, equations_from}
use Rattle.blocks.specs.declared.BlockSet.{BlockSet}
use Rattle.blocks.proofs.Slots.{all_slots}
use Rattle.sources.proofs.EquationArrays.{slots_stored, rests_stored, arrays_slots, arrays_read}
use Rattle.marks.specs.Marked.{Ready, left_equations}
use Rattle.marks.specs.CellLists.{cell_list}
use Rattle.marks.proofs.WhatIsLeft.{equations_fewer, equations_pass, small_left}
use Rattle.direct.specs.Direct.{sure_mines, sure_safe, from_last}
use Rattle.direct.specs.Answers.{swept_lists, AppendedLists}
use Rattle.direct.specs.declared.answer.Lists.{Lists}
use Rattle.direct.proofs.RuleAnswers.{lists_made, lists_safe, lists_mines}
use Rattle.direct.proofs.WholeSets.{equations_of_all}
use Rattle.subtraction.specs.Minus.{minus_mines, minus_safe, left_of}
use Rattle.subtraction.specs.Pairs.{Subtracts, minus_lists}
use Rattle.subtraction.specs.declared.Subtracted.{Subtracted}
use Rattle.subtraction.proofs.SweptLeft.{left_mines_room, left_safe_room}

-- ---- what is left of equations, in fresh arrays

-- the equations before place n
equations_count : (slots rests : List ℕ) (n : ℕ) → length (equations_from slots rests 0 n) ≡ n
unfolding equations_from
equations_count slots rests n =
    let e : n - 0 ≡ n = omega arith in
    length-map (range 0 (n - 0)) _ ∙ length_range 0 (n - 0) ∙ e

module _ (mines known slots rests : List ℕ) (n : ℕ) (few : n ≤ 1024) where
  -- what is left of them
  abbrev es : List BlockEquation
  es = left_equations true mines known (equations_from slots rests 0 n)

  pub left_few : length (left_equations true mines known (equations_from slots rests 0 n)) ≤ 1024
  left_few = omega (arith, equations_fewer true mines known (equations_from slots rests 0 n), equations_count slots rests n)

  -- stored from the first place on, where the equations are small
  module _ (small : all small_equation (equations_from slots rests 0 n) ≡ true)
      (left : List ℕ) (left_is : left ≡ sets (replicate 8192 65535) (0 * 8) (joined (map slots_of es)))
      (len : ℕ) (counted : len ≡ 0 + length es) where
    left_all_small : all small_equation es ≡ true
    left_all_small = equations_pass true mines known small_equation (small_left true mines known) (equations_from slots rests 0 n) small

    all_counted : len ≡ length es
    all_counted = omega (arith, counted)

    all_slots_lem : left ≡ all_slots es
    all_slots_lem = left_is ∙ slots_stored es left_all_small left_few

    pub left_arrays : Slots left len
    left_arrays = rw (all_slots_lem, all_counted) (arrays_slots es left_all_small left_few)

    -- they are read back
    pub left_arrays_read : (less : List ℕ) → less ≡ sets (replicate 1024 0) 0 (map (λ (e : BlockEquation). e.rest) es)
        → equations_from left less 0 len ≡ left_equations true mines known (equations_from slots rests 0 n)
    left_arrays_read less less_is =
        rw (all_slots_lem, less_is ∙ rests_stored es left_all_small left_few, all_counted) (arrays_read es left_all_small left_few)

-- ---- on a set

-- n is where the equations of the last block end, and `more` what the sweeps find in what the marks leave
module _ (s : BlockSet) (w : Whole s) (ready : Ready (blocks_of s)) (own : Subtracted) (told : Subtracts (blocks_of s) own)
    (n : ℕ) (at : n ≡ begin_at s.equation_ends s.blocks)
    (more : Lists) (more_is : more ≡ swept_lists (left_equations true own.known.mines own.known.cells (equations_from s.slots s.rests 0 n))) where
  abbrev bs : List Block
  bs = blocks_of s

  swept : more ≡ swept_lists (left_of bs)
  swept = more_is ∙ ap swept_lists (ap (left_equations true own.known.mines own.known.cells) (equations_of_all s w n at) ∙ told.equations_left)

  more_mines : more.mines ≡ cell_list (sure_mines (left_of bs))
  more_mines = lists_mines more (sure_safe (left_of bs)) (sure_mines (left_of bs)) swept

  more_safe : more.safe ≡ cell_list (sure_safe (left_of bs))
  more_safe = lists_safe more (sure_safe (left_of bs)) (sure_mines (left_of bs)) swept

  -- there is room for both lists
  pub both_fit : (own.lists.safe.count + more.safe.count ≤ 1024) × (own.lists.mines.count + more.mines.count ≤ 1024)
  both_fit = (rw (told.safe_are, more_safe) (left_safe_room bs ready w.fits), rw (told.mines_are, more_mines) (left_mines_room bs ready w.fits))

  -- and the struct that holds them is what the contract says
  pub both_answered : (lists : Lists) → AppendedLists own.lists more lists → lists ≡ minus_lists bs
  both_answered lists appended =
      lists_made lists _ _
      (appended.0 (from_last minus_safe bs) (sure_safe (left_of bs)) told.safe_are more_safe)
      (appended.1 (from_last minus_mines bs) (sure_mines (left_of bs)) told.mines_are more_mines)
