-- The subtraction rule. Of two equations that share a cell, where the one has as many own cells as mines more, these are mines and the other's own cells
-- are free: counts of two lists differ as those of their own cells. So the lists have what every solution has, a solution solves what is left, and the
-- direct pass on the blocks left is sound in its turn. Rests on TakenOut, Answers and DirectLaws of the crate direct. Assumes nothing.
use mathlib.Core.Path.{◌≡◌, ap, ◌∙◌}
use mathlib.Core.Logic.{◌⊎◌, inl, inr}
use mathlib.Core.Bool.{Bool, true, false, not, cond, ◌&&◌, ◌||◌}
use mathlib.Core.List.Memᴰ
use mathlib.Core.List.{List, [], ◌++◌, map, map-map, Memᴰ}
use Prim.Native.Nat.{ℕ, ◌+◌}
use native.Mathlib.Omega.{arith}
use lib.Dec.{eqb}
use lib.ListN.{length}
use borrow.Author.Tests.{eqb-true}
use Rattle.lists.specs.Lists.{count, any, empty, has, nodup, joined, meets}
use Rattle.lists.proofs.Tests.{Decided, decided, clash, and_left, and_right, or_right}
use Rattle.lists.proofs.Members.{kept_passes, has_kept}
use Rattle.lists.proofs.Counts.{count_append}
use Rattle.lists.proofs.Unions.{append_cases}
use Rattle.lists.proofs.PassingElements.{each_kept, each_mapped}
use Rattle.lists.proofs.Among.{Among, among_left, among_right, keep_both_among, joined_reverse, joined_keep_among, joined_among, joined_both}
use Rattle.lists.proofs.Occurrences.{any_in}
use Rattle.fitting.proofs.Equations.{Exceeds, subtract_mines, subtract_safe}
use Rattle.blocks.specs.Blocks.{BlockEquation, Block, says}
use Rattle.blocks.specs.BlockSets.{all_cells, all_equations}
use Rattle.blocks.proofs.ProperBlocks.{Proper}
use Rattle.chunks.specs.Chunks.{chunk_matrixes}
use Rattle.direct.specs.Found.{contradicted, less_mines, less_safe}
use Rattle.direct.specs.Direct.{from_last, direct}
use Rattle.direct.proofs.TakenOut.{taken_out_proper, SolvedBy, SolvesAll, solves_less_mines, solves_less_safe, RestCovers, RestsCover, covers_less_mines, covers_less_safe}
use Rattle.direct.proofs.Answers.{each_of_made, each_of_kept, solves_block, from_last_each, answer_contradiction, answer_alone, answer_safe, answer_mines, answer_left, unless_has}
use Rattle.direct.proofs.DirectLaws.{direct_among, direct_no_contradiction, direct_mines_true, direct_safe_false}
use Rattle.subtraction.specs.Minus.{own_cells, exceeds, some_pair, minus_mines, minus_safe, minus_left, minus_blocks, subtraction}

-- ---- a pair of equations

-- two equations of a list, of which the first exceeds the second, and which pass a test
pub record Pair (t : BlockEquation → BlockEquation → Bool) (es : List BlockEquation) : Type 0 where
  pub first : BlockEquation
  pub second : BlockEquation
  pub first_listed : Memᴰ first es
  pub second_listed : Memᴰ second es
  pub exceeding : exceeds first second ≡ true
  pub passes : t first second ≡ true

-- where some pair passes there is one
pub some_pair_lem : (t : BlockEquation → BlockEquation → Bool) (es : List BlockEquation) → some_pair t es ≡ true → Pair t es
some_pair_lem t es h =
    let (d, m, x) = any_in (λ (e : BlockEquation). any (λ (f : BlockEquation). exceeds e f && t e f) es) es h in
    let (e, n, y) = any_in (λ (f : BlockEquation). exceeds d f && t d f) es x in
    record {
      first = d;
      second = e;
      first_listed = m;
      second_listed = n;
      exceeding = and_left (exceeds d e) (t d e) y;
      passes = and_right (exceeds d e) (t d e) y;
    }

-- what the test says of their remainders
pub exceeds_says : (d e : BlockEquation) → exceeds d e ≡ true → Exceeds (says d) (says e)
exceeds_says d e h =
    omega (
      arith,
      eqb-true d.rest (e.rest + length (own_cells d e)) (and_right (meets d.cells e.cells) (eqb d.rest (e.rest + length (own_cells d e))) h),
    )

-- of a pair where f solves both equations, and no cell stands twice in them
module _ (f : ℕ → Bool) (es : List BlockEquation) (once : (e : BlockEquation) → Memᴰ e es → nodup e.cells ≡ true) (solved : SolvesAll f es)
    (t : BlockEquation → BlockEquation → Bool) (w : Pair t es) where
  -- the first one's own cells are mines
  pub pair_mines : (c : ℕ) → has (own_cells w.first w.second) c ≡ true → f c ≡ true
  pair_mines =
      subtract_mines f (says w.first) (says w.second) (once w.first w.first_listed) (once w.second w.second_listed)
      (solved w.first w.first_listed) (solved w.second w.second_listed) (exceeds_says w.first w.second w.exceeding)

  -- and the second one's are free
  pub pair_safe : (c : ℕ) → has (own_cells w.second w.first) c ≡ true → f c ≡ false
  pair_safe =
      subtract_safe f (says w.first) (says w.second) (once w.first w.first_listed) (once w.second w.second_listed)
      (solved w.first w.first_listed) (solved w.second w.second_listed) (exceeds_says w.first w.second w.exceeding)

-- ---- a block

module _ (b : Block) where
  -- a cell listed as a mine is an own cell of one that exceeds another
  pub minus_mine_pair : (c : ℕ) → has (minus_mines b) c ≡ true → Pair (λ e f. has (own_cells e f) c) b.equations
  unfolding minus_mines
  minus_mine_pair c h =
      some_pair_lem (λ e f. has (own_cells e f) c) b.equations (kept_passes (λ x. some_pair (λ e f. has (own_cells e f) x) b.equations) b.cells c h)

  -- one listed as safe is an own cell of one that another exceeds
  pub minus_safe_pair : (c : ℕ) → has (minus_safe b) c ≡ true → Pair (λ e f. has (own_cells f e) c) b.equations
  unfolding minus_safe
  minus_safe_pair c h =
      some_pair_lem (λ e f. has (own_cells f e) c) b.equations (kept_passes (λ x. some_pair (λ e f. has (own_cells f e) x) b.equations) b.cells c h)

  -- the mines with the cells left are some of the block's cells, each at most as often
  pub minus_mines_among : Among (minus_mines b ++ (minus_left b).cells) b.cells
  unfolding minus_mines minus_left
  minus_mines_among = keep_both_among mine (λ c. not (has (minus_mines b) c || has (minus_safe b) c)) b.cells
      (λ c h t. rw (has_kept mine b.cells c t h))
    where
      mine : ℕ → Bool
      mine c = some_pair (λ e f. has (own_cells e f) c) b.equations

  -- and so are the safe cells with the cells left
  pub minus_safe_among : Among (minus_safe b ++ (minus_left b).cells) b.cells
  unfolding minus_safe minus_left
  minus_safe_among = keep_both_among safe (λ c. not (has (minus_mines b) c || has (minus_safe b) c)) b.cells
      (λ c h t. rw (or_right (has (minus_mines b) c) (has (minus_safe b) c) (has_kept safe b.cells c t h)))
    where
      safe : ℕ → Bool
      safe c = some_pair (λ e f. has (own_cells f e) c) b.equations

  -- what is left of a proper block is proper
  pub minus_left_proper : Proper b → Proper (minus_left b)
  unfolding minus_left
  minus_left_proper proper =
      taken_out_proper (minus_mines b) (minus_safe b) b (map without b.equations) proper
      (λ e m. Memᴰ.of_map without b.equations m) (λ d m c h x y. Memᴰ.map without m)
    where
      without : BlockEquation → BlockEquation
      without e = less_safe (minus_safe b) (less_mines (minus_mines b) e)

  -- remainders plus 8 stay at least the numbers of cells
  pub minus_left_covers : RestsCover b.equations → RestsCover (minus_left b).equations
  unfolding minus_left
  minus_left_covers h =
      rw (← map-map (less_safe (minus_safe b)) (less_mines (minus_mines b)) b.equations)
      (covers_less_safe (minus_safe b) (map (less_mines (minus_mines b)) b.equations) (covers_less_mines (minus_mines b) b.equations h))

  -- ---- where f solves the block, and no cell stands twice in an equation

  module _ (f : ℕ → Bool) (once : (e : BlockEquation) → Memᴰ e b.equations → nodup e.cells ≡ true) (solved : SolvesAll f b.equations) where
    -- the mines are mines
    pub minus_mines_true : (c : ℕ) → has (minus_mines b) c ≡ true → f c ≡ true
    minus_mines_true c h = let w = minus_mine_pair c h in pair_mines f b.equations once solved (λ d e. has (own_cells d e) c) w c w.passes

    -- the safe cells are free
    pub minus_safe_false : (c : ℕ) → has (minus_safe b) c ≡ true → f c ≡ false
    minus_safe_false c h = let w = minus_safe_pair c h in pair_safe f b.equations once solved (λ d e. has (own_cells e d) c) w c w.passes

    -- so no cell is in both lists
    pub minus_apart : (c : ℕ) → has (minus_mines b) c ≡ true → has (minus_safe b) c ≡ false
    minus_apart c h = go (decided (has (minus_safe b) c))
      where
        go : Decided (has (minus_safe b) c) → has (minus_safe b) c ≡ false
        go (inl k) = clash (f c) (minus_mines_true c h) (minus_safe_false c k)
        go (inr k) = k

    -- and f solves what is left
    pub minus_left_solved : SolvesAll f (minus_left b).equations
    unfolding minus_left
    minus_left_solved =
        rw (← map-map (less_safe (minus_safe b)) (less_mines (minus_mines b)) b.equations)
        (solves_less_safe f (minus_safe b) (map (less_mines (minus_mines b)) b.equations) minus_safe_false
        (solves_less_mines f (minus_mines b) b.equations minus_mines_true solved))

-- ---- blocks

module _ (bs : List Block) where
  -- where each block is proper, those left are
  pub minus_blocks_proper : ((b : Block) → Memᴰ b bs → Proper b) → (b : Block) → Memᴰ b (minus_blocks bs) → Proper b
  minus_blocks_proper proper =
      each_kept Proper (λ (b : Block). not (empty b.cells)) (map minus_left bs) (each_mapped Proper minus_left bs (λ b m. minus_left_proper b (proper b m)))

  -- and remainders plus 8 stay at least the numbers of cells
  pub minus_blocks_covers : RestsCover (all_equations bs) → RestsCover (all_equations (minus_blocks bs))
  minus_blocks_covers h =
      each_of_kept RestCovers (λ (b : Block). not (empty b.cells)) (map minus_left bs)
      (each_of_made RestCovers minus_left bs (λ b m. minus_left_covers b) h)

  -- refusal 6 is that of the direct pass
  pub subtraction_contradiction : (subtraction bs).contradiction ≡ (direct (minus_blocks bs)).contradiction
  unfolding subtraction
  subtraction_contradiction = answer_contradiction _ _ _ (direct (minus_blocks bs)).contradiction

  -- which comes alone
  pub subtraction_alone : (subtraction bs).contradiction ≡ true → subtraction bs ≡ contradicted
  unfolding subtraction
  subtraction_alone h = answer_alone _ _ _ (direct (minus_blocks bs)).contradiction h

  -- then the mines are none, and else those of the blocks with those of the direct pass
  pub subtraction_mines : (subtraction bs).mines ≡ cond (subtraction bs).contradiction [] (from_last minus_mines bs ++ (direct (minus_blocks bs)).mines)
  unfolding subtraction
  subtraction_mines = rw subtraction_contradiction (answer_mines _ _ _ (direct (minus_blocks bs)).contradiction)

  -- the safe cells likewise
  pub subtraction_safe : (subtraction bs).safe ≡ cond (subtraction bs).contradiction [] (from_last minus_safe bs ++ (direct (minus_blocks bs)).safe)
  unfolding subtraction
  subtraction_safe = rw subtraction_contradiction (answer_safe _ _ _ (direct (minus_blocks bs)).contradiction)

  -- and the blocks that the direct pass leaves, split once more
  pub subtraction_blocks_left : (subtraction bs).left ≡ cond (subtraction bs).contradiction [] (chunk_matrixes (direct (minus_blocks bs)).left)
  unfolding subtraction
  subtraction_blocks_left = rw subtraction_contradiction (answer_left _ _ _ (direct (minus_blocks bs)).contradiction)

  -- a listed mine is one of a block's list, or one of the direct pass
  pub subtraction_mines_cases : (c : ℕ) → has (subtraction bs).mines c ≡ true
      → (has (from_last minus_mines bs) c ≡ true) ⊎ (has (direct (minus_blocks bs)).mines c ≡ true)
  subtraction_mines_cases c h =
      append_cases (from_last minus_mines bs) (direct (minus_blocks bs)).mines c (unless_has (subtraction bs).contradiction _ c (rw subtraction_mines at h))

  -- and so is a listed safe cell
  pub subtraction_safe_cases : (c : ℕ) → has (subtraction bs).safe c ≡ true
      → (has (from_last minus_safe bs) c ≡ true) ⊎ (has (direct (minus_blocks bs)).safe c ≡ true)
  subtraction_safe_cases c h =
      append_cases (from_last minus_safe bs) (direct (minus_blocks bs)).safe c (unless_has (subtraction bs).contradiction _ c (rw subtraction_safe at h))

  -- a list of each block that leaves its other cells, with some cells of the blocks left, is some of the cells, each at most as often
  pub listed_among : (g : Block → List ℕ) (later : List ℕ) (t : Bool) → ((b : Block) → Among (g b ++ (minus_left b).cells) b.cells)
      → Among later (all_cells (minus_blocks bs)) → Among (cond t [] (from_last g bs ++ later)) (all_cells bs)
  listed_among g later true part after f = omega arith
  listed_among g later false part after f =
      omega (
        arith,
        count_append f (from_last g bs) later,
        after f,
        joined_reverse g bs f,
        joined_keep_among (λ (b : Block). b.cells) (λ (b : Block). not (empty b.cells)) (map minus_left bs) f,
        ap (λ (ls : List (List ℕ)). count f (joined ls)) (map-map (λ (b : Block). b.cells) minus_left bs),
        count_append f (joined (map g bs)) (joined (map (λ b. (minus_left b).cells) bs)),
        joined_both g (λ b. (minus_left b).cells) bs f,
        joined_among (λ b. g b ++ (minus_left b).cells) (λ b. b.cells) bs (λ b m. part b) f,
      )

  module _ (proper : (b : Block) → Memᴰ b bs → Proper b) where
    -- the mines are some of the cells
    pub subtraction_mines_among : Among (subtraction bs).mines (all_cells bs)
    subtraction_mines_among =
        rw subtraction_mines
        (listed_among minus_mines (direct (minus_blocks bs)).mines (subtraction bs).contradiction minus_mines_among
        (λ f. omega (
          arith,
          among_left (direct (minus_blocks bs)).mines (direct (minus_blocks bs)).safe f,
          direct_among (minus_blocks bs) (minus_blocks_proper proper) f,
        )))

    -- and so are the safe cells
    pub subtraction_safe_among : Among (subtraction bs).safe (all_cells bs)
    subtraction_safe_among =
        rw subtraction_safe
        (listed_among minus_safe (direct (minus_blocks bs)).safe (subtraction bs).contradiction minus_safe_among
        (λ f. omega (
          arith,
          among_right (direct (minus_blocks bs)).mines (direct (minus_blocks bs)).safe f,
          direct_among (minus_blocks bs) (minus_blocks_proper proper) f,
        )))

  -- ---- where f solves all equations, and no cell stands twice in one

  module _ (f : ℕ → Bool) (once : (b : Block) → Memᴰ b bs → (e : BlockEquation) → Memᴰ e b.equations → nodup e.cells ≡ true)
      (solved : SolvesAll f (all_equations bs)) where
    -- it solves those that are left
    pub minus_blocks_solved : SolvesAll f (all_equations (minus_blocks bs))
    minus_blocks_solved =
        each_of_kept (SolvedBy f) (λ (b : Block). not (empty b.cells)) (map minus_left bs)
        (each_of_made (SolvedBy f) minus_left bs (λ b m. minus_left_solved b f (once b m)) solved)

    -- there is no contradiction
    pub subtraction_no_contradiction : (subtraction bs).contradiction ≡ false
    subtraction_no_contradiction = subtraction_contradiction ∙ direct_no_contradiction (minus_blocks bs) f minus_blocks_solved

    -- the mines are mines
    pub subtraction_mines_true : (c : ℕ) → has (subtraction bs).mines c ≡ true → f c ≡ true
    subtraction_mines_true c h = go (subtraction_mines_cases c h)
      where
        go : (has (from_last minus_mines bs) c ≡ true) ⊎ (has (direct (minus_blocks bs)).mines c ≡ true) → f c ≡ true
        go (inl k) = from_last_each minus_mines bs (λ x. f x ≡ true) (λ b m. minus_mines_true b f (once b m) (solves_block f bs solved b m)) c k
        go (inr k) = direct_mines_true (minus_blocks bs) f minus_blocks_solved c k

    -- and the safe cells free
    pub subtraction_safe_false : (c : ℕ) → has (subtraction bs).safe c ≡ true → f c ≡ false
    subtraction_safe_false c h = go (subtraction_safe_cases c h)
      where
        go : (has (from_last minus_safe bs) c ≡ true) ⊎ (has (direct (minus_blocks bs)).safe c ≡ true) → f c ≡ false
        go (inl k) = from_last_each minus_safe bs (λ x. f x ≡ false) (λ b m. minus_safe_false b f (once b m) (solves_block f bs solved b m)) c k
        go (inr k) = direct_safe_false (minus_blocks bs) f minus_blocks_solved c k
