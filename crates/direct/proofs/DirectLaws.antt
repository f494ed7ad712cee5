-- The direct rule. An equation with as many mines as cells makes its cells mines, one with none makes them safe, so the lists have what every solution
-- has, and a solution solves the equations left. A list's cells are those of the equations that pass the sweep's test, each once; as no equation of
-- the second sweep has a cell of the first list, no cell is in both. Rests on TakenOut. Assumes nothing.
use mathlib.Core.Path.{◌≡◌, refl, sym, ap, ◌∙◌}
use mathlib.Core.Logic.{◌⊎◌, inl, inr}
use mathlib.Core.Bool.{Bool, true, false, not, cond, ◌&&◌}
use mathlib.Core.List.Memᴰ
use mathlib.Core.List.{List, [], ◌++◌, map, reverse, Memᴰ}
use Prim.Native.Nat.{ℕ, ◌+◌, ◌≤◌}
use native.Mathlib.Omega.{arith}
use lib.ListN.{length}
use borrow.Author.Tests.{eqb-true, not-true}
use Rattle.lists.specs.Lists.{keep, count, any, has, nodup, joined}
use Rattle.lists.proofs.Tests.{Decided, decided, clash, and_left, and_right}
use Rattle.lists.proofs.Members.{kept_passes, kept_has, has_kept, nodup_append}
use Rattle.lists.proofs.Counts.{count_append}
use Rattle.lists.proofs.Rearranged.{rearranged_has, reverse_rearranged}
use Rattle.lists.proofs.Unions.{append_cases, has_joined_map, has_add_new, nodup_add_new}
use Rattle.lists.proofs.PassingElements.{not_passes, any_none, any_keep, each_kept}
use Rattle.lists.proofs.Among.{Among, nodup_among, joined_reverse, joined_among, joined_both}
use Rattle.lists.proofs.Occurrences.{any_in, in_any, kept_in, in_kept}
use Rattle.blocks.specs.Blocks.{BlockEquation, Block}
use Rattle.blocks.specs.BlockSets.{all_cells, all_equations}
use Rattle.blocks.proofs.Saying.{says_all_mines, says_all_free}
use Rattle.blocks.proofs.ProperBlocks.{Proper}
use Rattle.chunks.specs.Chunks.{chunk_matrixes}
use Rattle.direct.specs.Found.{contradicted, less_mines, less_safe}
use Rattle.direct.specs.Direct.{full, clear, cells_of, sure_mines, after_mines, sure_safe, after_safe, direct_left, negative, from_last, direct}
use Rattle.direct.proofs.TakenOut.{taken_out_proper, SolvedBy, SolvesAll, is_negative, RestCovers, RestsCover, covers_less_mines, covers_less_safe, solves_less_mines, solves_less_safe, solved_not_negative}
use Rattle.direct.proofs.Answers.{each_of_made, solves_block, from_last_each, answer_contradiction, answer_alone, answer_safe, answer_mines, answer_left, unless_has}

-- ---- the cells of the equations that pass a test

-- a cell is one of them exactly where some equation that passes has it
pub cells_of_has : (t : BlockEquation → Bool) (es : List BlockEquation) (c : ℕ) → has (cells_of t es) c ≡ any (λ (e : BlockEquation). t e && has e.cells c) es
cells_of_has t es c =
    let l = joined (map (λ (e : BlockEquation). e.cells) (keep t es)) in
    has_add_new [] (reverse l) c
    ∙ rearranged_has (reverse l) l (reverse_rearranged l) c
    ∙ has_joined_map (λ (e : BlockEquation). e.cells) (keep t es) c
    ∙ any_keep (λ (e : BlockEquation). has e.cells c) t es

-- so it has such an equation
pub cells_of_equation : (t : BlockEquation → Bool) (es : List BlockEquation) (c : ℕ) → has (cells_of t es) c ≡ true
    → (e : BlockEquation) × Memᴰ e es × (t e ≡ true) × (has e.cells c ≡ true)
cells_of_equation t es c h =
    let (e, m, w) = any_in (λ (d : BlockEquation). t d && has d.cells c) es (sym (cells_of_has t es c) ∙ h) in
    (e, m, and_left (t e) (has e.cells c) w, and_right (t e) (has e.cells c) w)

-- and the cells of such an equation are all there
pub equation_cells_of : (t : BlockEquation → Bool) (es : List BlockEquation) (c : ℕ) (e : BlockEquation)
    → Memᴰ e es → t e ≡ true → has e.cells c ≡ true → has (cells_of t es) c ≡ true
equation_cells_of t es c e m x h = cells_of_has t es c ∙ in_any (λ (d : BlockEquation). t d && has d.cells c) es m (rw (x, h))

-- none stands twice
pub cells_of_once : (t : BlockEquation → Bool) (es : List BlockEquation) → nodup (cells_of t es) ≡ true
cells_of_once t es = nodup_add_new [] (reverse (joined (map (λ (e : BlockEquation). e.cells) (keep t es)))) refl

-- ---- the two lists of a block's equations

-- what an equation must be to stay after the first sweep
abbrev pub not_full : BlockEquation → Bool
not_full e = not (full e)

-- and after the second
abbrev pub not_clear : BlockEquation → Bool
not_clear e = not (clear e)

module _ (es : List BlockEquation) where
  -- a mine is a cell of a full equation
  pub sure_mine_equation : (c : ℕ) → has (sure_mines es) c ≡ true → (e : BlockEquation) × Memᴰ e es × (full e ≡ true) × (has e.cells c ≡ true)
  unfolding sure_mines
  sure_mine_equation = cells_of_equation full es

  -- an equation after the first sweep is one that wasn't full, without the mines
  pub after_mines_from : (e : BlockEquation) → Memᴰ e (after_mines es)
      → (d : BlockEquation) × Memᴰ d es × (full d ≡ false) × (less_mines (sure_mines es) d ≡ e)
  after_mines_from e m =
      let (d, n, w) = Memᴰ.of_map (less_mines (sure_mines es)) (keep not_full es) m in
      let (k, t) = kept_in not_full es d n in
      (d, k, not-true (full d) t, w)

  -- a safe cell is no mine of the list, and a cell of an equation that is clear without the mines
  pub sure_safe_equation : (c : ℕ) → has (sure_safe es) c ≡ true
      → (d : BlockEquation) × Memᴰ d es × (has (sure_mines es) c ≡ false) × (has d.cells c ≡ true)
  unfolding sure_safe
  sure_safe_equation c h =
      let (e, m, _, k) = cells_of_equation clear (after_mines es) c h in
      let (d, n, _, w) = after_mines_from e m in
      let l : has (less_mines (sure_mines es) d).cells c ≡ true = rw (← w) at k in (
        d,
        n,
        not-true (has (sure_mines es) c) (kept_passes (λ x. not (has (sure_mines es) x)) d.cells c l),
        kept_has (λ x. not (has (sure_mines es) x)) d.cells c l,
      )

  -- no cell stands twice in the mines
  pub sure_mines_once : nodup (sure_mines es) ≡ true
  unfolding sure_mines
  sure_mines_once = cells_of_once full es

  -- nor in the safe cells
  pub sure_safe_once : nodup (sure_safe es) ≡ true
  unfolding sure_safe
  sure_safe_once = cells_of_once clear (after_mines es)

  -- none is in both
  pub sure_apart : (c : ℕ) → has (sure_mines es) c ≡ true → has (sure_safe es) c ≡ false
  sure_apart c h = go (decided (has (sure_safe es) c))
    where
      go : Decided (has (sure_safe es) c) → has (sure_safe es) c ≡ false
      go (inl k) = let (d, m, out, w) = sure_safe_equation c k in clash (has (sure_mines es) c) h out
      go (inr k) = k

  -- remainders plus 8 stay at least the numbers of cells
  pub after_safe_covers : RestsCover es → RestsCover (after_safe es)
  after_safe_covers h =
      covers_less_safe (sure_safe es) (keep not_clear (after_mines es))
      (each_kept RestCovers not_clear (after_mines es)
      (covers_less_mines (sure_mines es) (keep not_full es)
      (each_kept RestCovers not_full es h)))

  -- ---- what every solution has

  module _ (f : ℕ → Bool) (solved : SolvesAll f es) where
    -- the mines are mines
    pub sure_mines_true : (c : ℕ) → has (sure_mines es) c ≡ true → f c ≡ true
    sure_mines_true c h = let (e, m, t, k) = sure_mine_equation c h in
        says_all_mines f e (solved e m) (eqb-true e.rest (length e.cells + 8) t) c k

    -- the equations after the first sweep are solved
    pub after_mines_solved : SolvesAll f (after_mines es)
    after_mines_solved =
        solves_less_mines f (sure_mines es) (keep not_full es) sure_mines_true
        (each_kept (SolvedBy f) not_full es solved)

    -- the safe cells are free
    pub sure_safe_false : (c : ℕ) → has (sure_safe es) c ≡ true → f c ≡ false
    unfolding sure_safe
    sure_safe_false c h = let (e, m, t, k) = cells_of_equation clear (after_mines es) c h in
        says_all_free f e (after_mines_solved e m) (eqb-true e.rest 8 t) c k

    -- the equations after the second sweep are solved
    pub after_safe_solved : SolvesAll f (after_safe es)
    after_safe_solved =
        solves_less_safe f (sure_safe es) (keep not_clear (after_mines es)) sure_safe_false
        (each_kept (SolvedBy f) not_clear (after_mines es) after_mines_solved)

    -- and none of them is negative
    pub after_safe_not_negative : any is_negative (after_safe es) ≡ false
    after_safe_not_negative = solved_not_negative f (after_safe es) after_safe_solved

-- ---- a block

-- its two lists together are some of its cells, each once
pub sure_among : (b : Block) → Proper b → Among (sure_mines b.equations ++ sure_safe b.equations) b.cells
sure_among b proper =
    nodup_among (sure_mines es ++ sure_safe es) b.cells
    (nodup_append (sure_mines es) (sure_safe es) (sure_mines_once es) (sure_safe_once es) (sure_apart es)) proper.once
    (λ c h. inside c (append_cases (sure_mines es) (sure_safe es) c h))
  where
    es : List BlockEquation
    es = b.equations

    inside : (c : ℕ) → (has (sure_mines es) c ≡ true) ⊎ (has (sure_safe es) c ≡ true) → has b.cells c ≡ true
    inside c (inl h) = let (e, m, _, k) = sure_mine_equation es c h in proper.within e m c k
    inside c (inr h) = let (e, m, _, k) = sure_safe_equation es c h in proper.within e m c k

-- what is left of it is as it should be: an equation that has a cell left is neither full nor, without the mines, clear
pub direct_left_proper : (b : Block) → Proper b → Proper (direct_left b)
unfolding direct_left sure_mines sure_safe
direct_left_proper b proper = taken_out_proper ms ss b (after_safe es) proper from stays
  where
    es : List BlockEquation
    es = b.equations

    ms : List ℕ
    ms = sure_mines es

    ss : List ℕ
    ss = sure_safe es

    from : (e : BlockEquation) → Memᴰ e (after_safe es) → (d : BlockEquation) × Memᴰ d es × (less_safe ss (less_mines ms d) ≡ e)
    from e m =
        let (x, n, w) = Memᴰ.of_map (less_safe ss) (keep not_clear (after_mines es)) m in
        let (d, k, _, v) = after_mines_from es x (kept_in not_clear (after_mines es) x n).0 in
        (d, k, ap (less_safe ss) v ∙ w)

    stays : (d : BlockEquation) → Memᴰ d es → (c : ℕ) → has d.cells c ≡ true → has ms c ≡ false → has ss c ≡ false
        → Memᴰ (less_safe ss (less_mines ms d)) (after_safe es)
    stays d m c h x y = Memᴰ.map (less_safe ss) (in_kept not_clear (after_mines es) second (rw not_clear_lem))
      where
        not_full_lem : full d ≡ false
        not_full_lem = not_passes (full d) (has ms c) (λ t. equation_cells_of full es c d m t h) x

        second : Memᴰ (less_mines ms d) (after_mines es)
        second = Memᴰ.map (less_mines ms) (in_kept not_full es m (rw not_full_lem))

        not_clear_lem : clear (less_mines ms d) ≡ false
        not_clear_lem = not_passes (clear (less_mines ms d)) (has ss c)
            (λ t. equation_cells_of clear (after_mines es) c (less_mines ms d) second t (has_kept (λ z. not (has ms z)) d.cells c (rw x) h)) y

-- ---- blocks

module _ (bs : List Block) where
  -- refusal 6: an equation left over is negative
  pub direct_contradiction : (direct bs).contradiction ≡ negative (map direct_left bs)
  unfolding direct
  direct_contradiction = answer_contradiction _ _ _ (negative (map direct_left bs))

  -- which comes alone
  pub direct_alone : (direct bs).contradiction ≡ true → direct bs ≡ contradicted
  unfolding direct
  direct_alone h = answer_alone _ _ _ (negative (map direct_left bs)) h

  -- then the mines are none, and else those of the blocks
  pub direct_mines : (direct bs).mines ≡ cond (direct bs).contradiction [] (from_last (λ b. sure_mines b.equations) bs)
  unfolding direct
  direct_mines = rw direct_contradiction (answer_mines _ _ _ (negative (map direct_left bs)))

  -- the safe cells likewise
  pub direct_safe : (direct bs).safe ≡ cond (direct bs).contradiction [] (from_last (λ b. sure_safe b.equations) bs)
  unfolding direct
  direct_safe = rw direct_contradiction (answer_safe _ _ _ (negative (map direct_left bs)))

  -- and the blocks left, split anew
  pub direct_blocks_left : (direct bs).left ≡ cond (direct bs).contradiction [] (chunk_matrixes (map direct_left bs))
  unfolding direct
  direct_blocks_left = rw direct_contradiction (answer_left _ _ _ (negative (map direct_left bs)))

  -- so a listed mine is one of a block's list
  pub direct_mines_listed : (c : ℕ) → has (direct bs).mines c ≡ true → has (from_last (λ b. sure_mines b.equations) bs) c ≡ true
  direct_mines_listed c h = unless_has (direct bs).contradiction _ c (rw direct_mines at h)

  -- and so is a listed safe cell
  pub direct_safe_listed : (c : ℕ) → has (direct bs).safe c ≡ true → has (from_last (λ b. sure_safe b.equations) bs) c ≡ true
  direct_safe_listed c h = unless_has (direct bs).contradiction _ c (rw direct_safe at h)

  -- of proper blocks, the two lists together are some of the cells, each at most as often
  pub direct_among : ((b : Block) → Memᴰ b bs → Proper b) → Among ((direct bs).mines ++ (direct bs).safe) (all_cells bs)
  direct_among proper f = rw (direct_mines, direct_safe) (go (direct bs).contradiction)
    where
      mines : List ℕ
      mines = from_last (λ b. sure_mines b.equations) bs

      safe : List ℕ
      safe = from_last (λ b. sure_safe b.equations) bs

      go : (t : Bool) → count f (cond t [] mines ++ cond t [] safe) ≤ count f (all_cells bs)
      go true = omega arith
      go false =
          omega (
            arith,
            count_append f mines safe,
            joined_reverse (λ (b : Block). sure_mines b.equations) bs f,
            joined_reverse (λ (b : Block). sure_safe b.equations) bs f,
            count_append f (joined (map (λ (b : Block). sure_mines b.equations) bs)) (joined (map (λ (b : Block). sure_safe b.equations) bs)),
            joined_both (λ (b : Block). sure_mines b.equations) (λ b. sure_safe b.equations) bs f,
            joined_among (λ (b : Block). sure_mines b.equations ++ sure_safe b.equations) (λ b. b.cells) bs (λ b m. sure_among b (proper b m)) f,
          )

  -- remainders plus 8 stay at least the numbers of cells
  pub direct_left_covers : RestsCover (all_equations bs) → RestsCover (all_equations (map direct_left bs))
  unfolding direct_left
  direct_left_covers = each_of_made RestCovers direct_left bs (λ b m. after_safe_covers b.equations)

  -- ---- where f solves all equations

  module _ (f : ℕ → Bool) (solved : SolvesAll f (all_equations bs)) where
    -- it solves those that are left
    pub direct_left_solved : SolvesAll f (all_equations (map direct_left bs))
    unfolding direct_left
    direct_left_solved = each_of_made (SolvedBy f) direct_left bs (λ b m. after_safe_solved b.equations f) solved

    -- there is no contradiction
    pub direct_no_contradiction : (direct bs).contradiction ≡ false
    direct_no_contradiction =
        direct_contradiction
        ∙ any_none (λ (b : Block). any is_negative b.equations) (map direct_left bs)
        (λ b m. solved_not_negative f b.equations (solves_block f (map direct_left bs) direct_left_solved b m))

    -- the mines are mines
    pub direct_mines_true : (c : ℕ) → has (direct bs).mines c ≡ true → f c ≡ true
    direct_mines_true c h =
        from_last_each (λ b. sure_mines b.equations) bs (λ x. f x ≡ true)
        (λ b m. sure_mines_true b.equations f (solves_block f bs solved b m)) c (direct_mines_listed c h)

    -- and the safe cells free
    pub direct_safe_false : (c : ℕ) → has (direct bs).safe c ≡ true → f c ≡ false
    direct_safe_false c h =
        from_last_each (λ b. sure_safe b.equations) bs (λ x. f x ≡ false)
        (λ b m. sure_safe_false b.equations f (solves_block f bs solved b m)) c (direct_safe_listed c h)
