-- Enumeration at a position is sound and complete for layouts: what it lists is the same in every layout that fits, and where some layout fits it lists
-- every cell of the frontier that is the same in all, on the right list. The idea: a block's solutions are the parts of the layouts that fit, since blocks
-- share no closed cell. So as a rule of the verdict it is sound and complete on every board, and so are the three rules, tried one after another.
-- `near` lists at most eight neighbours of a cell, none twice. Rests on EnumerationLaws and on Fitting of the crate frontier. Assumes nothing.
use mathlib.Core.Path.{◌≡◌, refl, sym, ◌∙◌}
use mathlib.Core.Logic.{inl, inr, ◌↔◌}
use mathlib.Core.Bool.{Bool, true, false}
use mathlib.Core.List.{List, map, Memᴰ}
use Prim.Native.Nat.{ℕ, ◌≤◌}
use native.Mathlib.Omega.{arith}
use lib.ListN.{length}
use Rattle.lists.specs.Lists.{empty, has, nodup, joined}
use Rattle.lists.proofs.Tests.{Decided, decided, clash, and_left}
use Rattle.lists.proofs.Members.{empty_none}
use Rattle.lists.proofs.Unions.{has_joined_map}
use Rattle.lists.proofs.Occurrences.{any_in, in_any}
use Rattle.lists.proofs.PassingElements.{any_none}
use Rattle.lists.proofs.Among.{Among, joined_among, among_has}
use Rattle.grid.specs.Cells.{shows}
use Rattle.fitting.specs.Layouts.{mine_at, Fits, Forced}
use Rattle.fitting.specs.Boards.{own}
use Rattle.fitting.specs.Passes.{or_else}
use Rattle.fitting.specs.Rules.{Sound, Complete}
use Rattle.fitting.proofs.Rules.{sound_or_else, complete_or_else}
use Rattle.blocks.specs.Blocks.{Block}
use Rattle.blocks.specs.BlockSets.{all_cells}
use Rattle.blocks.proofs.ProperBlocks.{cell_block, Solves}
use Rattle.frontier.specs.Frontier.{frontier}
use Rattle.frontier.proofs.BlockLaws.{frontier_proper}
use Rattle.frontier.proofs.Coverage.{beside_open_frontier}
use Rattle.frontier.proofs.Fitting.{fits_solves_block, solutions_force, solutions_allow}
use Rattle.direct.specs.Found.{Found, rule_of}
use Rattle.direct.specs.Direct.{direct}
use Rattle.direct.proofs.Answers.{answer_alone}
use Rattle.direct.proofs.Soundness.{SoundAt, rule_sound, direct_rule_sound}
use Rattle.subtraction.specs.Minus.{subtraction}
use Rattle.subtraction.proofs.Soundness.{subtraction_rule_sound}
use Rattle.search.specs.Solutions.{solutions}
use Rattle.enumeration.specs.Enumeration.{safe_cells, mine_cells, unsolvable, enumerated}
use Rattle.enumeration.specs.ThreeRules.{three_rules}
use Rattle.enumeration.proofs.EnumerationLaws.{solved_row, safe_cell, mine_cell, not_safe_cell, safe_cells_among, mine_cells_among}

-- every closed cell beside an open one that is the same in every layout that fits is in the lists of an answer
pub record CompleteAt (near : ℕ → List ℕ) (p : List ℕ) (answer : Found) : Type 0 where
  pub safe_found : (c d : ℕ) → shows p c ≡ 10 → shows p d ≤ 8 → has (near d) c ≡ true → Forced near p c false → has answer.safe c ≡ true
  pub mines_found : (c d : ℕ) → shows p c ≡ 10 → shows p d ≤ 8 → has (near d) c ≡ true → Forced near p c true → has answer.mines c ≡ true

-- ---- the lists of some blocks

module _ (bs : List Block) where
  -- where no block is without a solution, the lists are those of the blocks
  enumerated_safe : unsolvable bs ≡ false → (enumerated bs).safe ≡ joined (map safe_cells bs)
  unfolding enumerated
  enumerated_safe h = rw h

  enumerated_mines : unsolvable bs ≡ false → (enumerated bs).mines ≡ joined (map mine_cells bs)
  unfolding enumerated
  enumerated_mines h = rw h

  -- a listed cell is listed by a block
  safe_block : (c : ℕ) → has (enumerated bs).safe c ≡ true → (b : Block) × Memᴰ b bs × (has (safe_cells b) c ≡ true)
  unfolding enumerated
  safe_block c h = go (decided (unsolvable bs))
    where
      go : Decided (unsolvable bs) → (b : Block) × Memᴰ b bs × (has (safe_cells b) c ≡ true)
      go (inl e) = clash false (rw e at h) refl
      go (inr e) = any_in (λ (b : Block). has (safe_cells b) c) bs (sym (has_joined_map safe_cells bs c) ∙ rw e at h)

  mine_block : (c : ℕ) → has (enumerated bs).mines c ≡ true → (b : Block) × Memᴰ b bs × (has (mine_cells b) c ≡ true)
  unfolding enumerated
  mine_block c h = go (decided (unsolvable bs))
    where
      go : Decided (unsolvable bs) → (b : Block) × Memᴰ b bs × (has (mine_cells b) c ≡ true)
      go (inl e) = clash false (rw e at h) refl
      go (inr e) = any_in (λ (b : Block). has (mine_cells b) c) bs (sym (has_joined_map mine_cells bs c) ∙ rw e at h)

module _ (near : ℕ → List ℕ) (once : (c : ℕ) → nodup (near c) ≡ true) (few : (c : ℕ) → length (near c) ≤ 8) where
  -- ---- at a position

  module _ (p : List ℕ) where
    -- where some layout fits, each block has a solution
    fits_solvable : (m : List Bool) → Fits near p m → unsolvable (frontier near p) ≡ false
    fits_solvable m fit =
        any_none (λ (b : Block). empty (solutions b)) (frontier near p)
        (λ b k. solved_row b (frontier_proper near p b k) (mine_at m) (fits_solves_block near p once few b k m fit))

    -- enumeration is sound
    pub enumeration_sound_at : SoundAt near p (enumerated (frontier near p))
    unfolding enumerated
    enumeration_sound_at = record {
      safe_free = λ c h. let (b, k, e) = safe_block (frontier near p) c h in
          solutions_force near p once few b k c false ((safe_cell b (frontier_proper near p b k) c).0 e).1;
      mines_mined = λ c h. let (b, k, e) = mine_block (frontier near p) c h in
          solutions_force near p once few b k c true ((mine_cell b (frontier_proper near p b k) c).0 e).1;
      safe_among_lem = safe (decided (unsolvable (frontier near p)));
      mines_among_lem = mines (decided (unsolvable (frontier near p)));
      no_contradiction = λ m fit. rw (fits_solvable m fit);
      alone = answer_alone _ _ _ (unsolvable (frontier near p));
    }
      where
        safe : Decided (unsolvable (frontier near p)) → Among (enumerated (frontier near p)).safe (all_cells (frontier near p))
        safe (inl e) = rw e (λ f. omega arith)
        safe (inr e) =
            rw e (joined_among safe_cells (λ (b : Block). b.cells) (frontier near p) (λ b k. safe_cells_among b (frontier_proper near p b k)))

        mines : Decided (unsolvable (frontier near p)) → Among (enumerated (frontier near p)).mines (all_cells (frontier near p))
        mines (inl e) = rw e (λ f. omega arith)
        mines (inr e) =
            rw e (joined_among mine_cells (λ (b : Block). b.cells) (frontier near p) (λ b k. mine_cells_among b (frontier_proper near p b k)))

    -- and complete, where some layout fits: a cell of the frontier that is the same in all of them is listed
    module _ (m : List Bool) (fit : Fits near p m) where
      -- what is so in every layout that fits is so in every solution of the block
      forced_in_block : (b : Block) → Memᴰ b (frontier near p) → (c : ℕ) → has b.cells c ≡ true → (v : Bool) → Forced near p c v
          → (f : ℕ → Bool) → Solves f b → f c ≡ v
      forced_in_block b k c h v forced f s = let (w, fits, e) = solutions_allow near p once few b k m fit f s c h in sym e ∙ forced w fits

      pub enumeration_complete_safe : (c : ℕ) → has (all_cells (frontier near p)) c ≡ true → Forced near p c false
          → has (enumerated (frontier near p)).safe c ≡ true
      enumeration_complete_safe c h forced =
          let (b, k, e) = cell_block (frontier near p) c h in
          rw (enumerated_safe (frontier near p) (fits_solvable m fit))
          (has_joined_map safe_cells (frontier near p) c
          ∙ in_any (λ (x : Block). has (safe_cells x) c) (frontier near p) k
          ((safe_cell b (frontier_proper near p b k) c).1 (e, forced_in_block b k c e false forced)))

      pub enumeration_complete_mine : (c : ℕ) → has (all_cells (frontier near p)) c ≡ true → Forced near p c true
          → has (enumerated (frontier near p)).mines c ≡ true
      enumeration_complete_mine c h forced =
          let (b, k, e) = cell_block (frontier near p) c h in
          rw (enumerated_mines (frontier near p) (fits_solvable m fit))
          (has_joined_map mine_cells (frontier near p) c
          ∙ in_any (λ (x : Block). has (mine_cells x) c) (frontier near p) k
          ((mine_cell b (frontier_proper near p b k) c).1 (e, forced_in_block b k c e true forced)))

      pub enumeration_complete_at : CompleteAt near p (enumerated (frontier near p))
      enumeration_complete_at = record {
        safe_found = λ c d closed is_open h. enumeration_complete_safe c (beside_open_frontier near p c d closed is_open h);
        mines_found = λ c d closed is_open h. enumeration_complete_mine c (beside_open_frontier near p c d closed is_open h);
      }

      -- so the two lists have exactly the cells of the frontier that are the same in every layout that fits
      pub enumeration_safe_exactly : (c : ℕ)
          → (has (enumerated (frontier near p)).safe c ≡ true) ↔ ((has (all_cells (frontier near p)) c ≡ true) × Forced near p c false)
      enumeration_safe_exactly c = (
        λ h. (
          among_has (enumerated (frontier near p)).safe (all_cells (frontier near p)) enumeration_sound_at.safe_among_lem c h,
          enumeration_sound_at.safe_free c h,
        ),
        λ (h, forced). enumeration_complete_safe c h forced,
      )

      pub enumeration_mines_exactly : (c : ℕ)
          → (has (enumerated (frontier near p)).mines c ≡ true) ↔ ((has (all_cells (frontier near p)) c ≡ true) × Forced near p c true)
      enumeration_mines_exactly c = (
        λ h. (
          among_has (enumerated (frontier near p)).mines (all_cells (frontier near p)) enumeration_sound_at.mines_among_lem c h,
          enumeration_sound_at.mines_mined c h,
        ),
        λ (h, forced). enumeration_complete_mine c h forced,
      )

      -- and a cell of the frontier that is not listed as safe has a mine in some layout that fits
      pub enumeration_not_safe : (c : ℕ) → has (all_cells (frontier near p)) c ≡ true → has (enumerated (frontier near p)).safe c ≡ false
          → (w : List Bool) × Fits near p w × (mine_at w c ≡ true)
      enumeration_not_safe c h out =
          let (b, k, e) = cell_block (frontier near p) c h in
          let (f, s, x) = not_safe_cell b (frontier_proper near p b k) c e (fails b k (decided (has (safe_cells b) c))) in
          let (w, fits, y) = solutions_allow near p once few b k m fit f s c e in
          (w, fits, y ∙ x)
        where
          fails : (b : Block) → Memᴰ b (frontier near p) → Decided (has (safe_cells b) c) → has (safe_cells b) c ≡ false
          fails b k (inr e) = e
          fails b k (inl e) =
              clash (has (enumerated (frontier near p)).safe c)
              (rw (enumerated_safe (frontier near p) (fits_solvable m fit))
              (has_joined_map safe_cells (frontier near p) c ∙ in_any (λ (x : Block). has (safe_cells x) c) (frontier near p) k e))
              out

  -- ---- as a rule of the verdict, and after the two others

  pub enumeration_rule_sound : (b : List ℕ) → Sound near b (rule_of near enumerated 3)
  enumeration_rule_sound = rule_sound near enumerated 3 enumeration_sound_at

  pub enumeration_rule_complete : (b : List ℕ) → Complete near b (rule_of near enumerated 3)
  enumeration_rule_complete b = record {
    witness = λ p fit none c d closed is_open h.
        let safe = (enumerated (frontier near p)).safe in
        enumeration_not_safe p (own b) fit c (beside_open_frontier near p c d closed is_open h)
        (empty_none safe (and_left (empty safe) (empty (enumerated (frontier near p)).mines) none) c);
  }

  pub three_rules_sound : (b : List ℕ) → Sound near b (three_rules near)
  three_rules_sound b =
      sound_or_else near b (rule_of near direct 1) (or_else (rule_of near subtraction 2) (rule_of near enumerated 3)) (direct_rule_sound near once few b)
      (sound_or_else near b (rule_of near subtraction 2) (rule_of near enumerated 3) (subtraction_rule_sound near once few b) (enumeration_rule_sound b))

  pub three_rules_complete : (b : List ℕ) → Complete near b (three_rules near)
  three_rules_complete b =
      complete_or_else near b (rule_of near direct 1) (or_else (rule_of near subtraction 2) (rule_of near enumerated 3))
      (complete_or_else near b (rule_of near subtraction 2) (rule_of near enumerated 3) (enumeration_rule_complete b))
