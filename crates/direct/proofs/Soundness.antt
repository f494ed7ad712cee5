-- Rules at a position. A layout that fits solves the equations of the frontier, so what the direct rule lists is the same in every layout that fits, and
-- where some layout fits it meets no contradiction. Listed cells are cells of the frontier, so closed, and none stands twice in a list. So it is a
-- sound rule for the verdict on every board. `near` lists at most eight neighbours of a cell, none twice. Rests on DirectLaws. Assumes nothing.
use mathlib.Core.Path.{◌≡◌}
use mathlib.Core.Logic.{inl, inr}
use mathlib.Core.Bool.{Bool, true, false}
use mathlib.Core.List.{List, ◌++◌}
use Prim.Native.Nat.{ℕ, ◌+◌, ◌≤◌, ◌<◌}
use native.Mathlib.Omega.{arith}
use lib.ListN.{length, length-append}
use lib.Dec.{ltb}
use borrow.Author.Tests.{eqb-true, ne_eqb, lt-ltb}
use Rattle.lists.specs.Lists.{keep, count, has, nodup, all}
use Rattle.lists.proofs.Tests.{Decided, decided, clash}
use Rattle.lists.proofs.Counts.{length_keep}
use Rattle.lists.proofs.Rearranged.{rearranged_length}
use Rattle.lists.proofs.Among.{Among, among_length, among_has, among_nodup, among_left, among_right, keep_both_among}
use Rattle.lists.proofs.All.{has_all}
use Rattle.grid.specs.Cells.{shows}
use Rattle.fitting.specs.Layouts.{mine_at, Fits, Forced}
use Rattle.fitting.specs.Equations.{is_closed, is_known_mine}
use Rattle.fitting.specs.Rules.{Sound}
use Rattle.fitting.proofs.Layouts.{on_board}
use Rattle.blocks.specs.Blocks.{Block}
use Rattle.blocks.specs.BlockSets.{all_cells, all_equations}
use Rattle.sources.specs.Sources.{closed_beside}
use Rattle.frontier.specs.Frontier.{equation_of, cells_met, frontier}
use Rattle.frontier.proofs.BlockLaws.{equation_rearranged, frontier_proper, Origin, equation_origin}
use Rattle.frontier.proofs.Coverage.{frontier_closed, frontier_once, frontier_size}
use Rattle.frontier.proofs.Fitting.{fits_solves}
use Rattle.direct.specs.Found.{Found, contradicted, rule_of}
use Rattle.direct.specs.Direct.{direct}
use Rattle.direct.proofs.TakenOut.{RestsCover}
use Rattle.direct.proofs.DirectLaws.{direct_alone, direct_among, direct_no_contradiction, direct_mines_true, direct_safe_false}

-- what the lists of an answer say is so in every layout that fits; their cells are of the frontier; there is no contradiction where a layout fits, and
-- where there is one it comes alone
pub record SoundAt (near : ℕ → List ℕ) (p : List ℕ) (answer : Found) : Type 0 where
  pub safe_free : (c : ℕ) → has answer.safe c ≡ true → Forced near p c false
  pub mines_mined : (c : ℕ) → has answer.mines c ≡ true → Forced near p c true
  pub safe_among_lem : Among answer.safe (all_cells (frontier near p))
  pub mines_among_lem : Among answer.mines (all_cells (frontier near p))
  pub no_contradiction : (m : List Bool) → Fits near p m → answer.contradiction ≡ false
  pub alone : answer.contradiction ≡ true → answer ≡ contradicted

-- ---- what follows of such an answer

module _ (near : ℕ → List ℕ) (p : List ℕ) (l : List ℕ) (among : Among l (all_cells (frontier near p))) where
  -- cells of the frontier are closed
  pub listed_closed : (c : ℕ) → has l c ≡ true → shows p c ≡ 10
  listed_closed c h = frontier_closed near p c (among_has l (all_cells (frontier near p)) among c h)

  -- none stands twice
  pub listed_once : nodup l ≡ true
  listed_once = among_nodup l (all_cells (frontier near p)) among (frontier_once near p)

  -- and there are no more than the board has cells
  pub listed_few : length l ≤ length p
  listed_few = omega (arith, among_length l (all_cells (frontier near p)) among, frontier_size near p)

-- cells of the frontier have numbers below the number of cells
pub listed_below : (near : ℕ → List ℕ) (p l : List ℕ) → Among l (all_cells (frontier near p)) → all (λ c. ltb c (length p)) l ≡ true
listed_below near p l among = has_all (λ c. ltb c (length p)) l (λ c h. lt-ltb c (length p) (below c (listed_closed near p l among c h)))
  where
    below : (c : ℕ) → shows p c ≡ 10 → c < length p
    below c e = on_board p c (omega arith)

-- where some layout fits, no cell is in both lists
pub listed_apart : (near : ℕ → List ℕ) (p : List ℕ) (answer : Found) → SoundAt near p answer → (m : List Bool) → Fits near p m
    → (c : ℕ) → has answer.mines c ≡ true → has answer.safe c ≡ false
listed_apart near p answer sound m fit c h = go (decided (has answer.safe c))
  where
    go : Decided (has answer.safe c) → has answer.safe c ≡ false
    go (inl k) = clash (mine_at m c) (sound.mines_mined c h m fit) (sound.safe_free c k m fit)
    go (inr k) = k

-- a rule at a position is sound on every board where its answers are
pub rule_sound : (near : ℕ → List ℕ) (rule : List Block → Found) (grade : ℕ) → ((p : List ℕ) → SoundAt near p (rule (frontier near p)))
    → (b : List ℕ) → Sound near b (rule_of near rule grade)
rule_sound near rule grade sound b = record {
  safe = λ p _ c h. (listed_closed near p (rule (frontier near p)).safe (sound p).safe_among_lem c h, (sound p).safe_free c h);
  mines = λ p _ c h. (listed_closed near p (rule (frontier near p)).mines (sound p).mines_among_lem c h, (sound p).mines_mined c h);
}

-- ---- the remainders of the frontier

-- a remainder plus 8 is at least the number of cells: closed neighbours and known mines are at most eight together
pub frontier_covers : (near : ℕ → List ℕ) (p : List ℕ) → ((c : ℕ) → nodup (near c) ≡ true) → ((c : ℕ) → length (near c) ≤ 8)
    → RestsCover (all_equations (frontier near p))
frontier_covers near p once few e m = go (equation_origin near p e m)
  where
    apart : (c : ℕ) → is_closed p c ≡ true → is_known_mine p c ≡ false
    apart c h = ne_eqb (shows p c) 11 (λ w. omega (arith, eqb-true (shows p c) 10 h))

    together : (d : ℕ) → count (is_closed p) (near d) + count (is_known_mine p) (near d) ≤ length (near d)
    together d =
        omega (
          arith,
          among_length (keep (is_closed p) (near d) ++ keep (is_known_mine p) (near d)) (near d)
              (keep_both_among (is_closed p) (is_known_mine p) (near d) (λ c _. apart c)),
          length-append (keep (is_closed p) (near d)) (keep (is_known_mine p) (near d)),
          length_keep (is_closed p) (near d),
          length_keep (is_known_mine p) (near d),
        )

    go : Origin near p e → length e.cells ≤ e.rest
    go o =
        rw o.same
        (omega (
          arith,
          rearranged_length (equation_of near p (cells_met near p o.part) o.source).cells (closed_beside near p o.source)
              (equation_rearranged near p o.part o.source o.of_part (once o.source)),
          length_keep (is_closed p) (near o.source),
          together o.source,
          few o.source,
        ))

-- ---- the direct rule

module _ (near : ℕ → List ℕ) (once : (c : ℕ) → nodup (near c) ≡ true) (few : (c : ℕ) → length (near c) ≤ 8) where
  -- the direct rule
  pub direct_sound_at : (p : List ℕ) → SoundAt near p (direct (frontier near p))
  direct_sound_at p = record {
    safe_free = λ c h m fit. direct_safe_false (frontier near p) (mine_at m) (fits_solves near p once few m fit) c h;
    mines_mined = λ c h m fit. direct_mines_true (frontier near p) (mine_at m) (fits_solves near p once few m fit) c h;
    safe_among_lem = λ f. omega (arith, both f, among_right (direct (frontier near p)).mines (direct (frontier near p)).safe f);
    mines_among_lem = λ f. omega (arith, both f, among_left (direct (frontier near p)).mines (direct (frontier near p)).safe f);
    no_contradiction = λ m fit. direct_no_contradiction (frontier near p) (mine_at m) (fits_solves near p once few m fit);
    alone = direct_alone (frontier near p);
  }
    where
      both : Among ((direct (frontier near p)).mines ++ (direct (frontier near p)).safe) (all_cells (frontier near p))
      both = direct_among (frontier near p) (frontier_proper near p)

  -- so the direct rule is sound for the verdict, with the grade 1
  pub direct_rule_sound : (b : List ℕ) → Sound near b (rule_of near direct 1)
  direct_rule_sound = rule_sound near direct 1 direct_sound_at
