-- The marks of the subtraction rule, read block by block. All pairs of all blocks mark cells in the same arrays; as an equation's cells are its block's and no
-- cell stands in two blocks, the marks at a cell of a block are those of its own pairs. So the marked cells are the lists of the rule, and what is left by
-- the marks is what the rule leaves. Rests on the laws of ready blocks. Assumes nothing.
use mathlib.Core.Path.{◌≡◌, refl, sym, ap, ◌∙◌}
use mathlib.Core.Bool.{true, false, not, cond, ◌&&◌, ◌||◌, and-true}
use mathlib.Core.List.{List, [], ◌∷◌, map, map-map, reverse, Memᴰ}
use Prim.Native.Nat.{ℕ, ◌<◌}
use lib.Dec.{eqb, ltb}
use lib.ListN.{get_or, replicate}
use borrow.Author.Tests.{ltb-true}
use Rattle.lists.specs.Lists.{bit, keep, count, any, all, empty, has, joined}
use Rattle.lists.proofs.Members.{kept_has, has_keep}
use Rattle.lists.proofs.All.{all_has}
use Rattle.lists.proofs.Counts.{count_ext}
use Rattle.lists.proofs.Elements.{replicate_all}
use Rattle.lists.proofs.Kept.{keep_all, keep_both, keep_ext}
use Rattle.lists.proofs.Occurrences.{reverse_in}
use Rattle.blocks.specs.Blocks.{BlockEquation, Block}
use Rattle.blocks.specs.BlockSets.{all_cells, all_equations}
use Rattle.blocks.specs.Places.{marked}
use Rattle.marks.specs.Marked.{Ready, left_equation, stays, left_equations, left_block, left_blocks}
use Rattle.direct.specs.Found.{less_mines, less_safe}
use Rattle.direct.specs.Direct.{from_last}
use Rattle.subtraction.specs.Minus.{own_cells, minus_mines, minus_safe, minus_left, left_of, minus_blocks}
use Rattle.subtraction.proofs.MinusLaws.{some_pair_lem}
use Rattle.subtraction.proofs.Pairs.{mines_of, safe_of}
use Rattle.subtraction.proofs.ReadyBlocks.{ReadyBlock, ready_block}
use Rattle.lists.proofs.Among.{among_has}
use Rattle.lists.proofs.TurnedRound.{map_agree, map_joined}
use Rattle.lists.proofs.ListsOfElements.{one_among, any_one, joined_unless}
use Rattle.lists.proofs.Tests.{bit_is_zero, not_or}

-- before the first mark nothing is marked
pub none_marked : (n d : ℕ) → marked (replicate n 0) d ≡ false
none_marked n d = replicate_all (λ i x. eqb x 1 ≡ false) n 0 0 (λ i h. refl) (λ i h. refl) d

-- ---- a block and its own pairs

module _ (b : Block) (ready : ReadyBlock b) (c : ℕ) where
  -- a cell that they mark is the block's
  mines_inside : mines_of b.equations c ≡ true → has b.cells c ≡ true
  mines_inside h =
      let w = some_pair_lem (λ e f. has (own_cells e f) c) b.equations h in
      ready.inside w.first w.first_listed c (kept_has (λ x. not (has w.second.cells x)) w.first.cells c w.passes)

  safe_inside : safe_of b.equations c ≡ true → has b.cells c ≡ true
  safe_inside h =
      let w = some_pair_lem (λ e f. has (own_cells f e) c) b.equations h in
      ready.inside w.second w.second_listed c (kept_has (λ x. not (has w.first.cells x)) w.second.cells c w.passes)

-- a cell of the block that they mark is in the block's list
module _ (b : Block) (c : ℕ) (h : has b.cells c ≡ true) where
  mines_listed : has (minus_mines b) c ≡ mines_of b.equations c
  unfolding minus_mines
  mines_listed = has_keep (mines_of b.equations) b.cells c ∙ rw h (and-true (mines_of b.equations c))

  safe_listed : has (minus_safe b) c ≡ safe_of b.equations c
  unfolding minus_safe
  safe_listed = has_keep (safe_of b.equations) b.cells c ∙ rw h (and-true (safe_of b.equations c))

-- ---- the marks of all blocks

module _ (bs : List Block) (ready : Ready bs) (mines safe : List ℕ)
    (mines_are : (d : ℕ) → marked mines d ≡ any (λ (q : Block). mines_of q.equations d) bs)
    (safe_are : (d : ℕ) → marked safe d ≡ any (λ (q : Block). safe_of q.equations d) bs) where
  -- at a cell of a block they are those of its own pairs
  module _ (b : Block) (m : Memᴰ b bs) (c : ℕ) (h : has b.cells c ≡ true) where
    mine_marked : marked mines c ≡ has (minus_mines b) c
    mine_marked =
        mines_are c
        ∙ any_one (λ (q : Block). q.cells) bs ready.once (λ (q : Block). mines_of q.equations c) c (λ q n. mines_inside q (ready_block bs ready q n) c) b m h
        ∙ sym (mines_listed b c h)

    safe_marked_lem : marked safe c ≡ has (minus_safe b) c
    safe_marked_lem =
        safe_are c
        ∙ any_one (λ (q : Block). q.cells) bs ready.once (λ (q : Block). safe_of q.equations c) c (λ q n. safe_inside q (ready_block bs ready q n) c) b m h
        ∙ sym (safe_listed b c h)

  -- so the marked cells of a block are its list
  module _ (b : Block) (m : Memᴰ b bs) where
    mines_kept : keep (marked mines) b.cells ≡ minus_mines b
    unfolding minus_mines
    mines_kept = keep_ext (marked mines) (mines_of b.equations) b.cells (λ c h. mine_marked b m c h ∙ mines_listed b c h)

    safe_kept : keep (marked safe) b.cells ≡ minus_safe b
    unfolding minus_safe
    safe_kept = keep_ext (marked safe) (safe_of b.equations) b.cells (λ c h. safe_marked_lem b m c h ∙ safe_listed b c h)

  -- and those of all blocks, from the last to the first, are the rule's lists
  pub marked_mines : from_last (λ (b : Block). keep (marked mines) b.cells) bs ≡ from_last minus_mines bs
  marked_mines = ap joined (map_agree (λ (b : Block). keep (marked mines) b.cells) minus_mines (reverse bs) (λ b m. mines_kept b (reverse_in bs m)))

  pub marked_safe : from_last (λ (b : Block). keep (marked safe) b.cells) bs ≡ from_last minus_safe bs
  marked_safe = ap joined (map_agree (λ (b : Block). keep (marked safe) b.cells) minus_safe (reverse bs) (λ b m. safe_kept b (reverse_in bs m)))

  -- ---- what is left, where the cells of both are known

  module _ (below : all (λ c. ltb c 1024) (all_cells bs) ≡ true) (known : List ℕ)
      (known_are : (d : ℕ) → d < 1024 → get_or known d 0 ≡ bit (marked mines d || marked safe d)) where
    module _ (b : Block) (m : Memᴰ b bs) where
      on_board : (c : ℕ) → has b.cells c ≡ true → c < 1024
      on_board c h =
          ltb-true c 1024
          (all_has (λ x. ltb x 1024) (all_cells bs) below c (among_has b.cells (all_cells bs) (one_among (λ (q : Block). q.cells) bs b m) c h))

      -- a cell that is not known is in neither list
      unknown : (c : ℕ) → has b.cells c ≡ true → eqb (get_or known c 0) 0 ≡ not (has (minus_mines b) c || has (minus_safe b) c)
      unknown c h =
          ap (λ (n : ℕ). eqb n 0) (known_are c (on_board c h))
          ∙ bit_is_zero (marked mines c || marked safe c)
          ∙ rw (mine_marked b m c h, safe_marked_lem b m c h)

      -- an equation without the known cells
      equation_left : (e : BlockEquation) → Memᴰ e b.equations → left_equation mines known e ≡ less_safe (minus_safe b) (less_mines (minus_mines b) e)
      equation_left e n =
          let own = (ready_block bs ready b m).inside e n in
          let cells : keep (λ c. eqb (get_or known c 0) 0) e.cells ≡ keep (λ c. not (has (minus_safe b) c)) (keep (λ c. not (has (minus_mines b) c)) e.cells) =
          keep_ext (λ c. eqb (get_or known c 0) 0) (λ c. not (has (minus_mines b) c) && not (has (minus_safe b) c)) e.cells
          (λ c h. unknown c (own c h) ∙ not_or (has (minus_mines b) c) (has (minus_safe b) c))
          ∙ sym (keep_both (λ c. not (has (minus_safe b) c)) (λ c. not (has (minus_mines b) c)) e.cells) in
          let fewer : count (marked mines) e.cells ≡ count (has (minus_mines b)) e.cells =
          count_ext (marked mines) (has (minus_mines b)) e.cells (λ c h. mine_marked b m c (own c h)) in
          rw (cells, fewer)

      -- a block without them, unless it has no cell left
      block_left : left_block true mines known b ≡ cond (empty (minus_left b).cells) [] (minus_left b ∷ [])
      unfolding left_block left_equations minus_left
      block_left =
          let cells = keep_ext (λ c. eqb (get_or known c 0) 0) (λ c. not (has (minus_mines b) c || has (minus_safe b) c)) b.cells unknown in
          let equations = keep_all (stays true) (map (left_equation mines known) b.equations) (λ e. refl)
          ∙ map_agree (left_equation mines known) (λ (e : BlockEquation). less_safe (minus_safe b) (less_mines (minus_mines b) e)) b.equations equation_left in
          rw (cells, equations)

    -- what the marks leave of all equations is what the rule leaves of them
    pub equations_left : left_equations true mines known (all_equations bs) ≡ left_of bs
    unfolding left_equations minus_left
    equations_left =
        keep_all (stays true) (map (left_equation mines known) (all_equations bs)) (λ e. refl)
        ∙ map_joined (left_equation mines known) (λ (b : Block). b.equations) bs
        ∙ ap joined (map_agree (λ (b : Block). map (left_equation mines known) b.equations) (λ (b : Block). (minus_left b).equations) bs
        (λ b m. map_agree (left_equation mines known) (λ (e : BlockEquation). less_safe (minus_safe b) (less_mines (minus_mines b) e)) b.equations (equation_left b m)))
        ∙ ap joined (sym (map-map (λ (b : Block). b.equations) minus_left bs))

    -- what the marks leave of all blocks is what the rule leaves
    pub marks_left : left_blocks true mines known bs ≡ minus_blocks bs
    unfolding left_blocks
    marks_left =
        ap joined (map_agree (left_block true mines known) (λ (b : Block). cond (empty (minus_left b).cells) [] (minus_left b ∷ [])) bs block_left)
        ∙ joined_unless (λ (b : Block). empty b.cells) minus_left bs
