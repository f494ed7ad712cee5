-- The three rules one after another, from the lists that the code has of each. A struct that holds the cells that a rule finds at a position, in whatever order
-- (`HoldsFound`), becomes with its grade the struct that a pass is told (`graded_finds`); its counts are both 0 exactly where the rule found nothing
-- (`found_cell_is`); so the first of the three with a cell, or the third, is what the three rules find (`direct_finds`, `later_finds`). The direct rule's cells
-- are those of the sweeps over the position's equations, and subtraction's those of the sweeps over all that it leaves, where a layout fits, so that
-- neither meets a contradiction. What a rule lists are cells of the frontier, so that it is on the board. Rests on the soundness of the rules. Assumes nothing.
use mathlib.Core.Path.{◌≡◌, refl, sym, ap, ◌∙◌}
use mathlib.Core.Logic.{inl, inr}
use mathlib.Core.Bool.{Bool, true, false, not}
use mathlib.Core.List.{List}
use Prim.Native.Nat.{ℕ, ◌*◌, ◌≤◌}
use native.Mathlib.Omega.{arith}
use lib.Dec.{ltb, eqb}
use lib.ListN.{length}
use borrow.Author.Tests.{ltb-true, not-true, not-false}
use Rattle.lists.specs.Lists.{all, empty, nodup}
use Rattle.lists.proofs.Tests.{Decided, decided}
use Rattle.lists.proofs.All.{has_all, all_has}
use Rattle.lists.proofs.Rearranged.{nodup_below}
use Rattle.lists.proofs.Among.{Among}
use Rattle.grid.specs.Window.{neighbours, Board}
use Rattle.grid.proofs.Places.{few_cells}
use Rattle.grid.proofs.Neighbours.{neighbours_nodup, neighbours_few}
use Rattle.fitting.specs.Layouts.{Fits}
use Rattle.fitting.specs.Passes.{nothing, or_else}
use Rattle.blocks.specs.Blocks.{Block}
use Rattle.blocks.specs.BlockSets.{all_cells}
use Rattle.blocks.specs.Places.{Slots, equations_from}
use Rattle.sources.specs.Equations.{plain_equations, EquationsHeld}
use Rattle.sources.proofs.EquationArrays.{arrays_slots, arrays_read, plain_small, plain_few}
use Rattle.frontier.specs.Frontier.{frontier}
use Rattle.marks.specs.CellLists.{cell_list, list_in, Below}
use Rattle.marks.specs.declared.listing.CellList.{CellList}
use Rattle.marks.proofs.HeldLists.{list_held, cell_list_below}
use Rattle.direct.specs.Found.{Found, rule_of}
use Rattle.direct.specs.Direct.{sure_mines, sure_safe, direct}
use Rattle.direct.specs.Answers.{rule_answer, lists_of, lists_in, swept_lists}
use Rattle.direct.specs.declared.answer.Lists.{Lists}
use Rattle.direct.proofs.DirectLaws.{sure_mines_once, sure_safe_once}
use Rattle.direct.proofs.Soundness.{SoundAt, listed_once, direct_sound_at, listed_below}
use Rattle.direct.proofs.FrontierReady.{frontier_ready}
use Rattle.direct.proofs.SweptEquations.{swept_mines, swept_safe}
use Rattle.subtraction.specs.Minus.{subtraction}
use Rattle.subtraction.specs.Pairs.{minus_lists}
use Rattle.subtraction.proofs.MinusLaws.{subtraction_contradiction}
use Rattle.subtraction.proofs.Soundness.{subtraction_sound_at}
use Rattle.subtraction.proofs.SweptLeft.{subtraction_mines_swept, subtraction_safe_swept}
use Rattle.enumeration.specs.Enumeration.{enumerated}
use Rattle.enumeration.specs.ThreeRules.{three_rules}
use Rattle.enumeration.proofs.Completeness.{enumeration_sound_at}
use Rattle.verdict.specs.Findings.{Finds, graded_finding, found_cell, later_finding}
use Rattle.verdict.proofs.InPlaceAndEmpty.{SameNumbers, same_empty, empty_length}

-- ---- subtraction, else enumeration

module _ (y z m : Lists) (second : m ≡ y) where
  -- the second found a cell
  pub takes_second : found_cell m ≡ true → graded_finding m 2 ≡ later_finding y z
  unfolding later_finding
  takes_second h = rw (← second, h)

  -- or none is left but the third
  pub takes_third : found_cell m ≡ false → (e : Lists) → e ≡ z → graded_finding e 3 ≡ later_finding y z
  unfolding later_finding
  takes_third h e third = rw (← second, h, third)

-- ---- one rule

-- the struct holds the cells of a list, in whatever order, none twice
pub record HoldsCells (r : CellList) (k : List ℕ) : Type 0 where
  pub list : List ℕ
  pub is : r ≡ cell_list list
  pub same : SameNumbers list k
  pub once : nodup list ≡ true

-- both lists of the struct hold what a rule finds
pub record HoldsFound (r : Lists) (f : Found) : Type 0 where
  pub safe : HoldsCells r.safe f.safe
  pub mines : HoldsCells r.mines f.mines

module _ (r : CellList) (k : List ℕ) (held : HoldsCells r k) where
  -- the count is 0 where the list is empty
  held_none : eqb r.count 0 ≡ empty k
  held_none = rw held.is (sym (empty_length held.list) ∙ same_empty held.list k held.same)

  -- the cells read are those of the list
  held_same : SameNumbers (list_in r) k
  held_same c = rw (list_held r held.list held.is) (held.same c)

module _ (near : ℕ → List ℕ) (p : List ℕ) (r : CellList) (k : List ℕ) (among : Among k (all_cells (frontier near p))) where
  -- a list among the cells of the frontier holds itself
  holds_list : r ≡ cell_list k → HoldsCells r k
  holds_list is = record { list = k; is = is; same = λ c. refl; once = listed_once near p k among }

  -- and one with its cells is on the board, and not longer than that
  held_below : HoldsCells r k → (n : ℕ) → length p ≡ n → n ≤ 1024 → Below n r
  held_below held n size few =
      let inside : all (λ c. ltb c (length p)) held.list ≡ true =
      has_all (λ c. ltb c (length p)) held.list (λ c h. all_has (λ x. ltb x (length p)) k (listed_below near p k among) c (sym (held.same c) ∙ h)) in
      let short = nodup_below (length p) held.list held.once (λ c h. ltb-true c (length p) (all_has (λ x. ltb x (length p)) held.list inside c h)) in
      cell_list_below n r held.list held.is (omega (arith, short, size, few)) (rw (← size) inside)

-- the struct that holds what a rule finds at a position
module _ (near : ℕ → List ℕ) (p : List ℕ) (rule : List Block → Found) (grade : ℕ) (r : Lists) (held : HoldsFound r (rule (frontier near p))) where
  -- says whether the rule found a cell
  found_cell_is : found_cell r ≡ not (nothing (rule_of near rule grade p))
  found_cell_is =
      rw (held_none r.safe (rule (frontier near p)).safe held.safe, held_none r.mines (rule (frontier near p)).mines held.mines)

  pub found_none : found_cell r ≡ false → nothing (rule_of near rule grade p) ≡ true
  found_none h = not-false (nothing (rule_of near rule grade p)) (sym found_cell_is ∙ h)

  pub found_some : found_cell r ≡ true → nothing (rule_of near rule grade p) ≡ false
  found_some h = not-true (nothing (rule_of near rule grade p)) (sym found_cell_is ∙ h)

  -- and is what a pass is told, where the rule is sound and there are at most 1024 cells
  pub graded_finds : SoundAt near p (rule (frontier near p)) → (n : ℕ) → length p ≡ n → n ≤ 1024 → Finds n (rule_of near rule grade p) (graded_finding r grade)
  graded_finds sound n size few = record {
    safe_below = held_below near p r.safe (rule (frontier near p)).safe sound.safe_among_lem held.safe n size few;
    mines_below = held_below near p r.mines (rule (frontier near p)).mines sound.mines_among_lem held.mines n size few;
    same_safe = held_same r.safe (rule (frontier near p)).safe held.safe;
    same_mines = held_same r.mines (rule (frontier near p)).mines held.mines;
    same_grade = refl;
  }

-- ---- the three rules on a board

module _ (edgeless : Bool) (rows columns : ℕ) (p : List ℕ) (board : Board p rows columns) where
  abbrev near : ℕ → List ℕ
  near = neighbours edgeless rows columns

  few : rows * columns ≤ 1024
  few = few_cells board.sized

  direct_sound : SoundAt (neighbours edgeless rows columns) p (direct (frontier (neighbours edgeless rows columns) p))
  direct_sound = direct_sound_at near (neighbours_nodup edgeless rows columns) (neighbours_few edgeless rows columns) p

  subtraction_sound : SoundAt (neighbours edgeless rows columns) p (subtraction (frontier (neighbours edgeless rows columns) p))
  subtraction_sound = subtraction_sound_at near (neighbours_nodup edgeless rows columns) (neighbours_few edgeless rows columns) p

  enumeration_sound : SoundAt (neighbours edgeless rows columns) p (enumerated (frontier (neighbours edgeless rows columns) p))
  enumeration_sound = enumeration_sound_at near (neighbours_nodup edgeless rows columns) (neighbours_few edgeless rows columns) p

  -- a sound rule's lists, on this board
  board_finds : (rule : List Block → Found) (grade : ℕ) (r : Lists) → HoldsFound r (rule (frontier (neighbours edgeless rows columns) p))
      → SoundAt (neighbours edgeless rows columns) p (rule (frontier (neighbours edgeless rows columns) p))
      → Finds (rows * columns) (rule_of (neighbours edgeless rows columns) rule grade p) (graded_finding r grade)
  board_finds rule grade r held sound = graded_finds near p rule grade r held sound (rows * columns) board.whole few

  -- a layout fits
  module _ (layout : List Bool) (fit : Fits (neighbours edgeless rows columns) p layout) where
    -- the sweeps over the equations hold what the direct rule finds
    direct_held : (d : Lists) → d ≡ swept_lists (plain_equations (neighbours edgeless rows columns) p) → HoldsFound d (direct (frontier (neighbours edgeless rows columns) p))
    unfolding lists_of
    direct_held d is =
        let none = direct_sound.no_contradiction layout fit in
        let once = neighbours_nodup edgeless rows columns in
        let es = plain_equations near p in
        record {
          safe = record { list = sure_safe es; is = ap (λ (l : Lists). l.safe) is; same = swept_safe near p once none; once = sure_safe_once es };
          mines = record { list = sure_mines es; is = ap (λ (l : Lists). l.mines) is; same = swept_mines near p once none; once = sure_mines_once es };
        }

    -- subtraction's lists are what the rule finds
    subtraction_held : (m : Lists) → m ≡ minus_lists (frontier (neighbours edgeless rows columns) p) → HoldsFound m (subtraction (frontier (neighbours edgeless rows columns) p))
    unfolding lists_of
    subtraction_held m is =
        let bs = frontier near p in
        let none = sym (subtraction_contradiction bs) ∙ subtraction_sound.no_contradiction layout fit in
        let ready = frontier_ready near p in
        let safe_is : m.safe ≡ cell_list (subtraction bs).safe = rw (subtraction_safe_swept bs ready none) (ap (λ (l : Lists). l.safe) is) in
        let mines_are : m.mines ≡ cell_list (subtraction bs).mines = rw (subtraction_mines_swept bs ready none) (ap (λ (l : Lists). l.mines) is) in
        record {
          safe = holds_list near p m.safe (subtraction bs).safe subtraction_sound.safe_among_lem safe_is;
          mines = holds_list near p m.mines (subtraction bs).mines subtraction_sound.mines_among_lem mines_are;
        }

    -- and so are enumeration's
    enumeration_held : (e : Lists) → e ≡ lists_in (rule_answer (enumerated (frontier (neighbours edgeless rows columns) p)))
        → HoldsFound e (enumerated (frontier (neighbours edgeless rows columns) p))
    unfolding rule_answer lists_of
    enumeration_held e is =
        let bs = frontier near p in
        let none = enumeration_sound.no_contradiction layout fit in
        let held : e ≡ lists_of (enumerated bs).safe (enumerated bs).mines = rw none at is in
        record {
          safe = holds_list near p e.safe (enumerated bs).safe enumeration_sound.safe_among_lem (ap (λ (l : Lists). l.safe) held);
          mines = holds_list near p e.mines (enumerated bs).mines enumeration_sound.mines_among_lem (ap (λ (l : Lists). l.mines) held);
        }

    module _ (d : Lists) (direct_is : d ≡ swept_lists (plain_equations (neighbours edgeless rows columns) p)) where
      -- direct found a cell
      pub direct_finds : found_cell d ≡ true → Finds (rows * columns) (three_rules (neighbours edgeless rows columns) p) (graded_finding d 1)
      unfolding or_else
      direct_finds h = rw (found_some near p direct 1 d (direct_held d direct_is) h) (board_finds direct 1 d (direct_held d direct_is) direct_sound)

      -- it found nothing: subtraction's lists where it found a cell, else enumeration's
      pub later_finds : found_cell d ≡ false → (m e : Lists) → m ≡ minus_lists (frontier (neighbours edgeless rows columns) p)
          → e ≡ lists_in (rule_answer (enumerated (frontier (neighbours edgeless rows columns) p)))
          → Finds (rows * columns) (three_rules (neighbours edgeless rows columns) p) (later_finding m e)
      unfolding or_else later_finding
      later_finds none m e subtraction_is enumeration_is = go (decided (found_cell m))
        where
          go : Decided (found_cell m) → Finds (rows * columns) (three_rules (neighbours edgeless rows columns) p) (later_finding m e)
          go (inl x) = rw (
            x,
            found_none near p direct 1 d (direct_held d direct_is) none,
            found_some near p subtraction 2 m (subtraction_held m subtraction_is) x,
          ) (board_finds subtraction 2 m (subtraction_held m subtraction_is) subtraction_sound)
          go (inr x) = rw (
            x,
            found_none near p direct 1 d (direct_held d direct_is) none,
            found_none near p subtraction 2 m (subtraction_held m subtraction_is) x,
          ) (board_finds enumerated 3 e (enumeration_held e enumeration_is) enumeration_sound)

  -- ---- the equations as the code reads them

  module _ (slots rests : List ℕ) (len : ℕ) (held : EquationsHeld (plain_equations (neighbours edgeless rows columns) p) slots rests len) where
    -- are fit for the sweeps
    pub equations_fit : Slots slots len
    equations_fit = rw (held.in_slots, held.many) (arrays_slots (plain_equations near p) (plain_small edgeless rows columns p board) (plain_few edgeless rows columns p board))

    -- and read as the position's
    pub equations_read : equations_from slots rests 0 len ≡ plain_equations (neighbours edgeless rows columns) p
    equations_read = rw (held.in_slots, held.in_rests, held.many) (arrays_read (plain_equations near p) (plain_small edgeless rows columns p board) (plain_few edgeless rows columns p board))
