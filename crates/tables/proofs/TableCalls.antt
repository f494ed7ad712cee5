-- What specs/Listed.antt says of cal_all_solution, from the equation that the call ensures. The call refuses, or the front of the table is the rows of `solutions`, which
-- are read back from it one by one: so what holds of these rows holds of the table. Rests on ListedSolutions and GroupRows of the crate search, and RowsOfOneWidth.
-- Assumes nothing.
use Rattle.std.specs.Prelude.{Result, Ok, Err}
use mathlib.Core.Path.{◌≡◌, refl, sym, ap, ◌∙◌}
use mathlib.Core.Logic.{◌⊎◌, inl, inr}
use mathlib.Core.Bool.{Bool, true, false, ◌&&◌}
use mathlib.Core.List.{List, [], map}
use Prim.Native.Nat.{ℕ, ◌*◌, ◌≤◌, ◌<◌}
use native.Mathlib.Omega.{arith}
use lib.Dec.{eqb, leb, ltb}
use lib.ListN.{length, get_or}
use lib.Seq.{sets, length-sets}
use borrow.Author.Tests.{eq-eqb, leb-true, ltb-true, le-leb, lt-ltb}
use Rattle.lists.specs.Lists.{range, bit, count, all, same, joined}
use Rattle.lists.proofs.Tests.{Decided, decided, clash}
use Rattle.lists.proofs.Unions.{all_of, mem_at}
use Rattle.lists.proofs.Joined.{read_all, map_range}
use Rattle.lists.proofs.PlacesAndRanges.{mem_place}
use Rattle.grid.specs.Window.{neighbours}
use Rattle.refusals.specs.declared.Refusal.{Refusal}
use Rattle.refusals.specs.declared.Refusal.TheVariants as refusal
use Rattle.refusals.specs.Tests.{position_tested}
use Rattle.refusals.proofs.FirstFailure.{not_both}
use Rattle.refusals.proofs.RefusalNumbers.{refusal_numbered}
use Rattle.blocks.specs.Blocks.{Block}
use Rattle.blocks.proofs.Reading.{no_block}
use Rattle.blocks.proofs.ProperBlocks.{Proper}
use Rattle.frontier.specs.Frontier.{frontier}
use Rattle.frontier.proofs.BlockLaws.{frontier_proper}
use Rattle.groups.specs.Groups.{firsts, sizes}
use Rattle.search.specs.Solutions.{solves, solutions}
use Rattle.search.proofs.Vectors.{within_sizes}
use Rattle.search.proofs.ListedSolutions.{solutions_once, solutions_in_order}
use Rattle.search.proofs.GroupRows.{row_listed, listed_row}
use Rattle.tables.specs.Tables.{table_with, table_number, table_solutions, table_groups, TableSeen, table_seen, row_at, table_refused, table_of, block_asked, cal_all_solution}
use Rattle.tables.specs.Listed.{asked_block, Accepts, ListedTable, TableCall}
use Rattle.tables.specs.declared.TableAnswer.{TableAnswer}
use Rattle.tables.proofs.RowsOfOneWidth.{row_back, behind_kept, places_differ}
use Rattle.refusals.specs.Refusals.{Tested, Accepted}

-- ---- the solutions at the front of a table

module _ (b : Block) (proper : Proper b) (t : List ℕ) (room : length (solutions b) * length (firsts b) ≤ length t) where
  abbrev after : List ℕ
  after = sets t 0 (joined (solutions b))

  wide : all (λ (row : List ℕ). eqb (length row) (length (firsts b))) (solutions b) ≡ true
  wide =
      all_of (λ (row : List ℕ). eqb (length row) (length (firsts b))) (solutions b)
      (λ row m. eq-eqb (length row) (length (firsts b)) (listed_row b proper row m).whole)

  back : (i : ℕ) → i < length (solutions b) → row_at (length (firsts b)) after i ≡ get_or (solutions b) i []
  back = row_back (solutions b) (length (firsts b)) wide t room

  few : (row : List ℕ) → count (same row) (solutions b) ≤ 1
  few row = omega (arith, solutions_once b proper row, at_most_one (within_sizes (sizes b) row && solves b row))
    where
      at_most_one : (v : Bool) → bit v ≤ 1
      at_most_one true = omega arith
      at_most_one false = omega arith

  rows_back : map (row_at (length (firsts b)) after) (range 0 (length (solutions b))) ≡ solutions b
  rows_back =
      map_range (row_at (length (firsts b)) after) (λ (i : ℕ). get_or (solutions b) i []) 0 (length (solutions b)) (λ i _ h. back i (omega arith))
      ∙ read_all (solutions b) []

  solutions_listed : ListedTable b t after (length (solutions b)) (length (firsts b))
  solutions_listed = record {
    width = refl;
    room = room;
    each_solves = λ i h. rw (back i h) (listed_row b proper (get_or (solutions b) i []) (mem_at (solutions b) i [] h));
    all_there = λ row s. let (i, h, is) = mem_place (solutions b) [] (row_listed b proper row s) in (i, h, back i h ∙ is);
    once = λ i j a c e. places_differ (solutions b) few i j a c (sym (back i a) ∙ e ∙ back j c);
    in_order = rw rows_back (solutions_in_order b proper);
    same_length = length-sets t 0 (joined (solutions b));
    kept = behind_kept (solutions b) (length (firsts b)) wide t room;
  }

-- ---- the call

module _ (edgeless : Bool) (rows columns : ℕ) (p : List ℕ) (k : ℕ) (t : List ℕ) where
  abbrev bs : List Block
  bs = frontier (neighbours edgeless rows columns) p

  abbrev asked : Block
  asked = asked_block edgeless rows columns p k

  -- the tests refuse
  pub tests_refuse : (x : Refusal) → position_tested rows columns p ≡ Err x → table_refused x t ≡ cal_all_solution edgeless rows columns p k t
  unfolding cal_all_solution
  tests_refuse x h = rw h

  -- the tests accept
  pub tests_accept : position_tested rows columns p ≡ Accepted → block_asked bs k t ≡ cal_all_solution edgeless rows columns p k t
  unfolding cal_all_solution
  tests_accept h = rw h

  -- the call refuses, with reason, or lists the block's solutions
  abbrev listing : TableSeen
  listing = table_seen (table_with (length (solutions asked)) (length (firsts asked))) (sets t 0 (joined (solutions asked)))

  abbrev Outcome : Type 0
  Outcome =
      ((x : Refusal) × (Accepts edgeless rows columns p k t → ⊥) × (cal_all_solution edgeless rows columns p k t ≡ table_refused x t))
      ⊎ (Accepts edgeless rows columns p k t × (cal_all_solution edgeless rows columns p k t ≡ listing))

  outcome : Outcome
  unfolding cal_all_solution block_asked table_of
  outcome = first (position_tested rows columns p) refl
    where
      area : ℕ
      area = length (solutions asked) * length (firsts asked)

      next : position_tested rows columns p ≡ Accepted → Decided (ltb k (length bs)) → Decided (leb area (length t)) → Outcome
      next e (inr a) _ = inl (refusal.Block, (λ h. clash (ltb k (length bs)) (lt-ltb k (length bs) h.there) a), rw (e, a))
      next e (inl a) (inr l) = inl (refusal.Table, (λ h. clash (leb area (length t)) (le-leb area (length t) h.room) l), rw (e, a, l))
      next e (inl a) (inl l) = inr (record { tests = e; there = ltb-true k (length bs) a; room = leb-true area (length t) l }, rw (e, a, l))

      first : (v : Tested) → position_tested rows columns p ≡ v → Outcome
      first (Err x) e = inl (x, (λ h. not_both (position_tested rows columns p) x h.tests e), rw e)
      first (Ok _) e = next e (decided (ltb k (length bs))) (decided (leb area (length t)))

  module _ (r : Result TableAnswer Refusal) (t' : List ℕ) (call : table_seen r t' ≡ cal_all_solution edgeless rows columns p k t) where
    pub table_call : TableCall edgeless rows columns p k t (table_number r) (table_solutions r) (table_groups r) t'
    table_call = go outcome
      where
        go : Outcome → TableCall edgeless rows columns p k t (table_number r) (table_solutions r) (table_groups r) t'
        go (inl (x, amiss, e)) =
            rw (ap (λ (v : TableSeen). v.answer) (call ∙ e))
            (record {
              accepted = ((λ z. refusal_numbered x z), λ h. absurd (amiss h));
              lists = λ z. refusal_numbered x z;
              table_kept = λ _. ap (λ (v : TableSeen). v.table) (call ∙ e);
            })
        go (inr (h, e)) =
            rw (ap (λ (v : TableSeen). v.answer) (call ∙ e))
            (record {
              accepted = ((λ _. h), λ _. refl);
              lists = λ _. rw (ap (λ (v : TableSeen). v.table) (call ∙ e))
                  (solutions_listed asked (frontier_proper (neighbours edgeless rows columns) p asked (mem_at bs k no_block h.there)) t h.room);
              table_kept = λ some. absurd (some refl);
            })
