-- What is told of each closed cell at the end is whether some layout of the total has it so; and so the cells listed are those of the definition: the same in every
-- layout that fits and holds the total. A closed cell is of a block, whose solutions told it, or inside. Rests on the theorems of the crate totals. Assumes nothing.
use mathlib.Core.Path.{◌≡◌, refl, sym, ap, ◌∙◌}
use mathlib.Core.Logic.{◌⊎◌, inl, inr, ◌↔◌}
use mathlib.Core.Bool.{Bool, true, false, not, cond, ◌&&◌}
use mathlib.Core.List.{List, [], ◌∷◌}
use Prim.Native.Nat.{ℕ, suc, ◌-◌, ◌≤◌, ◌<◌}
use native.Mathlib.Omega.{arith}
use lib.Dec.{leb, ltb, eqb}
use lib.ListN.{length, get_or}
use borrow.Author.Tests.{eqb-true, eq-eqb, lt-ltb, ltb-true, ltb-false, le-leb, not-true}
use Rattle.lists.specs.Lists.{range, keep, bit, count, has, nodup}
use Rattle.lists.proofs.Tests.{Decided, decided, clash, same_test, or_cases, bit_is_zero}
use Rattle.lists.proofs.Members.{has_append}
use Rattle.lists.proofs.Occurrences.{keep_agree}
use Rattle.grid.specs.Cells.{shows}
use Rattle.fitting.specs.Layouts.{mine_at, Fits, of_total, ForcedAmong, free_in_every}
use Rattle.fitting.specs.Equations.{is_closed}
use Rattle.fitting.specs.ForcedCells.{mined_in_every, forced_cells}
use Rattle.fitting.proofs.Layouts.{on_board}
use Rattle.fitting.proofs.Decision.{free_forced, forced_free}
use Rattle.fitting.proofs.ForcedCells.{mined_forced, forced_mined}
use Rattle.blocks.specs.Blocks.{Block}
use Rattle.blocks.specs.BlockSets.{all_cells}
use Rattle.groups.specs.Groups.{group_of_cell}
use Rattle.frontier.specs.Frontier.{frontier, inside_cells, known_mines}
use Rattle.totals.specs.Totals.{up_to, sums_to, is_inside, mines_left, some_mine, some_free, inside_mine, inside_free}
use Rattle.totals.specs.Joining.{counts_but}
use Rattle.totals.proofs.InsideCells.{known_at_most, inside_listed, inside_length, inside_list, closed_cell, inside_not_frontier}
use Rattle.totals.proofs.Totals.{LayoutOfTotal, block_mine, block_free, inside_mine_lem, inside_free_lem}
use Rattle.total_rule.specs.Cells.{Filled}
use Rattle.total_rule.specs.Blocks.{block_there, CountsHeld, CellsTold, mine_stage, free_stage}
use Rattle.total_rule.proofs.AllowedRows.{sums_all}

-- a list with a number in it is not empty
has_length : (l : List ℕ) (c : ℕ) → has l c ≡ true → 0 < length l
has_length [] c h = clash false h refl
has_length (x ∷ l) c h = omega arith

-- a cell of blocks is a cell of one of them
there_some : (bs : List Block) (c : ℕ) → has (all_cells bs) c ≡ true → (j : ℕ) × (j < length bs) × (has (block_there bs j).cells c ≡ true)
there_some [] c h = clash false h refl
there_some (b ∷ bs) c h = go (or_cases (has b.cells c) (has (all_cells bs) c) (sym (has_append b.cells (all_cells bs) c) ∙ h)) (there_some bs c)
  where
    go : (has b.cells c ≡ true) ⊎ (has (all_cells bs) c ≡ true) → (has (all_cells bs) c ≡ true → (j : ℕ) × (j < length bs) × (has (block_there bs j).cells c ≡ true))
        → (j : ℕ) × (j < length (b ∷ bs)) × (has (block_there (b ∷ bs) j).cells c ≡ true)
    go (inl e) ih = (0, omega arith, e)
    go (inr e) ih = let (j, l, m) = ih e in (suc j, omega arith, m)

-- what the blocks and all inside cells but one can hold, as the code has it
abbrev pub inner_sums : (ℕ → List ℕ) → List ℕ → List ℕ → List ℕ → ℕ → Bool
inner_sums near p counts ends n = sums_to (up_to (inside_cells near p - 1) ∷ counts_but counts ends (length (frontier near p)) (length (frontier near p))) n

module _ (near : ℕ → List ℕ) (p : List ℕ) (once : (c : ℕ) → nodup (near c) ≡ true) (few : (c : ℕ) → length (near c) ≤ 8)
    (mutually : (c d : ℕ) → d < length p → has (near d) c ≡ true → has (near c) d ≡ true) (small : length p ≤ 1024)
    (some : List Bool) (fit : Fits near p some) (total : ℕ) (holds : count (λ x. x) some ≡ total) where
  enough : known_mines p ≤ total
  enough = omega (arith, known_at_most near p some fit, holds)

  -- it is told whether some layout of the total has the cell so
  abbrev pub TellsLayout : Bool → List ℕ → Type 0
  TellsLayout v told = (c : ℕ) → shows p c ≡ 10 → (t : Bool) × (get_or told c 0 ≡ bit t) × ((t ≡ true) ↔ LayoutOfTotal near p total c v)

  -- ---- what is told

  abbrev bs : List Block
  bs = frontier near p

  module _ (v : Bool) (left : ℕ → Block → ℕ → Bool) (inner : Bool) (stage : ℕ → ℕ → Bool)
      (is_stage : (j g : ℕ) → j < length bs → stage j g ≡ left j (block_there bs j) g)
      (of_block : (i : ℕ) → i < length bs → (c : ℕ) → has (block_there bs i).cells c ≡ true → (left i (block_there bs i) (group_of_cell (block_there bs i) c) ≡ true) ↔ LayoutOfTotal near p total c v)
      (of_inside : (c : ℕ) → is_inside near p c ≡ true → (inner ≡ true) ↔ LayoutOfTotal near p total c v)
      {before joined told : List ℕ} (twos : (c : ℕ) → c < 1024 → get_or before c 0 ≡ 2)
      (blocks : CellsTold bs (length bs) stage before joined)
      (filled : 0 < inside_cells near p → Filled (bit inner) joined told) (kept : inside_cells near p ≡ 0 → told ≡ joined) where
    -- a cell of a block keeps what it is told
    block_keeps : (c : ℕ) (t : Bool) → get_or joined c 0 ≡ bit t → Decided (ltb 0 (inside_cells near p)) → get_or told c 0 ≡ bit t
    block_keeps c t e (inl h) = (filled (ltb-true 0 (inside_cells near p) h)).at_cell c ∙ rw e (go t)
      where
        go : (u : Bool) → cond (eqb (bit u) 2) (bit inner) (bit u) ≡ bit u
        go true = refl
        go false = refl
    block_keeps c t e (inr h) = ap (λ (l : List ℕ). get_or l c 0) (kept (omega (arith, ltb-false 0 (inside_cells near p) h))) ∙ e

    pub tells_layout : TellsLayout v told
    tells_layout c shut = go (closed_cell near p mutually c shut)
      where
        on : c < 1024
        on = omega (arith, small, on_board p c (omega arith))

        go : (is_inside near p c ≡ true) ⊎ (has (all_cells bs) c ≡ true) → (t : Bool) × (get_or told c 0 ≡ bit t) × ((t ≡ true) ↔ LayoutOfTotal near p total c v)
        go (inl h) =
            let some_inside : 0 < inside_cells near p = omega (arith, inside_length near p, has_length (inside_list near p) c (inside_listed near p c h)) in
            let two : get_or joined c 0 ≡ 2 = blocks.of_none c (inside_not_frontier near p mutually c h) ∙ twos c on in
            (inner, (filled some_inside).at_cell c ∙ rw two, of_inside c h)
        go (inr h) =
            let (j, l, m) = there_some bs c h in
            let t = left j (block_there bs j) (group_of_cell (block_there bs j) c) in
            (t, block_keeps c t (blocks.of_block j l c m ∙ ap bit (is_stage j (group_of_cell (block_there bs j) c) l)) (decided (ltb 0 (inside_cells near p))), of_block j l c m)

  -- ---- what is listed

  module _ (v : Bool) (told : List ℕ) (tells : TellsLayout v told) (everywhere : ℕ → Bool)
      (there : (c : ℕ) → everywhere c ≡ true → ForcedAmong near (of_total total) p c (not v)) (back : (c : ℕ) → ForcedAmong near (of_total total) p c (not v) → everywhere c ≡ true) where
    never_everywhere : (c : ℕ) → shows p c ≡ 10 → eqb (get_or told c 0) 0 ≡ everywhere c
    never_everywhere c shut = let (t, e, l) = tells c shut in rw (e, bit_is_zero t) (same_test (not t) (everywhere c) (forward t l) (backward t l (decided t)))
      where
        forward : (t : Bool) → ((t ≡ true) ↔ LayoutOfTotal near p total c v) → not t ≡ true → everywhere c ≡ true
        forward t l n = back c (λ m f h. other (mine_at m c) v (λ w. clash t (l.1 (m, f, eqb-true (count (λ x. x) m) total h, w)) (not-true t n)))
          where
            other : (a b : Bool) → (a ≡ b → ⊥) → a ≡ not b
            other true true x = absurd (x refl)
            other true false x = refl
            other false true x = refl
            other false false x = absurd (x refl)

        backward : (t : Bool) → ((t ≡ true) ↔ LayoutOfTotal near p total c v) → Decided t → everywhere c ≡ true → not t ≡ true
        backward t l (inr e) x = rw e
        backward t l (inl e) x =
            let (m, f, h, w) = l.0 e in
            absurd (differs v (sym w ∙ there c x m f (eq-eqb (count (λ x. x) m) total h)))
          where
            differs : (b : Bool) → b ≡ not b → ⊥
            differs true q = clash true refl q
            differs false q = clash false q refl

    pub listed_everywhere : keep (λ c. is_closed p c && eqb (get_or told c 0) 0) (range 0 (length p)) ≡ keep (λ c. is_closed p c && everywhere c) (range 0 (length p))
    listed_everywhere =
        keep_agree (λ c. is_closed p c && eqb (get_or told c 0) 0) (λ c. is_closed p c && everywhere c) (range 0 (length p)) (λ c m. go c (decided (is_closed p c)))
      where
        go : (c : ℕ) → Decided (is_closed p c) → (is_closed p c && eqb (get_or told c 0) 0) ≡ (is_closed p c && everywhere c)
        go c (inl e) = rw e (never_everywhere c (eqb-true (shows p c) 10 e))
        go c (inr e) = rw e

  -- ---- the rule's lists

  module _ (counts ends : List ℕ) (held : CountsHeld bs ends counts (length bs)) {before : List ℕ} (twos : (c : ℕ) → c < 1024 → get_or before c 0 ≡ 2) where
    module _ {joined mined : List ℕ} (blocks : CellsTold bs (length bs) (mine_stage near p total bs (length bs)) before joined)
        (filled : 0 < inside_cells near p → Filled (bit (leb 1 (mines_left total p) && inner_sums near p counts ends (mines_left total p - 1))) joined mined)
        (kept : inside_cells near p ≡ 0 → mined ≡ joined) where
      mine_inside : (c : ℕ) → is_inside near p c ≡ true → ((leb 1 (mines_left total p) && inner_sums near p counts ends (mines_left total p - 1)) ≡ true) ↔ LayoutOfTotal near p total c true
      unfolding inside_mine
      mine_inside c h =
          let some_inside : 1 ≤ inside_cells near p = omega (arith, inside_length near p, has_length (inside_list near p) c (inside_listed near p c h)) in
          let same : (leb 1 (mines_left total p) && inner_sums near p counts ends (mines_left total p - 1)) ≡ inside_mine near p total =
          ap (λ (b : Bool). leb 1 (mines_left total p) && b) (sums_all bs ends counts held (inside_cells near p - 1) (mines_left total p - 1)) ∙ rw (le-leb 1 (inside_cells near p) some_inside) in
          rw same (inside_mine_lem near p once few mutually some fit total enough c h)

      pub found_safe : keep (λ c. is_closed p c && eqb (get_or mined c 0) 0) (range 0 (length p)) ≡ (forced_cells near (of_total total) 5 p).safe
      unfolding forced_cells
      found_safe =
          listed_everywhere true mined
          (tells_layout true (some_mine near p total) _ (mine_stage near p total bs (length bs)) (λ j g l. rw (lt-ltb j (length bs) l))
          (λ i l c m. block_mine near p once few mutually some fit total enough i l c m) mine_inside twos blocks filled kept)
          (free_in_every near (of_total total) p) (λ c. free_forced near p (of_total total) c) (λ c. forced_free near p (of_total total) c)

    module _ {joined unfilled : List ℕ} (blocks : CellsTold bs (length bs) (free_stage near p total bs (length bs)) before joined)
        (filled : 0 < inside_cells near p → Filled (bit (inner_sums near p counts ends (mines_left total p))) joined unfilled) (kept : inside_cells near p ≡ 0 → unfilled ≡ joined) where
      free_inside : (c : ℕ) → is_inside near p c ≡ true → (inner_sums near p counts ends (mines_left total p) ≡ true) ↔ LayoutOfTotal near p total c false
      unfolding inside_free
      free_inside c h =
          let some_inside : 1 ≤ inside_cells near p = omega (arith, inside_length near p, has_length (inside_list near p) c (inside_listed near p c h)) in
          let same : inner_sums near p counts ends (mines_left total p) ≡ inside_free near p total =
          sums_all bs ends counts held (inside_cells near p - 1) (mines_left total p) ∙ rw (le-leb 1 (inside_cells near p) some_inside) in
          rw same (inside_free_lem near p once few mutually some fit total enough c h)

      pub found_mines : keep (λ c. is_closed p c && eqb (get_or unfilled c 0) 0) (range 0 (length p)) ≡ (forced_cells near (of_total total) 5 p).mines
      unfolding forced_cells
      found_mines =
          listed_everywhere false unfilled
          (tells_layout false (some_free near p total) _ (free_stage near p total bs (length bs)) (λ j g l. rw (lt-ltb j (length bs) l))
          (λ i l c m. block_free near p once few mutually some fit total enough i l c m) free_inside twos blocks filled kept)
          (mined_in_every near (of_total total) p) (λ c. mined_forced near (of_total total) p c) (λ c. forced_mined near (of_total total) p c)
