-- The writes that make up the text of solution tables: the rows of a table, a block's table, and the tables of all blocks; and that the rows which the call
-- answers stand inside the lent table. Rests on the laws of texts written one behind the other (the crate text). Assumes nothing.
use mathlib.Core.Path.{◌≡◌, refl, sym, ap, subst}
use mathlib.Core.Bool.{Bool, true, false, cond}
use mathlib.Core.List.{List, [], ◌∷◌, ◌++◌, map}
use Prim.Native.Nat.{ℕ, zero, suc, ◌+◌, ◌-◌, ◌*◌, ◌≤◌, ◌<◌}
use native.Mathlib.Nat.{not-suc-le-zero, suc-mul, mul-le-mul_right}
use native.Mathlib.Omega.{arith}
use lib.Dec.{leb, ltb}
use lib.ListN.{length, get_or, replicate}
use lib.Seq.{sets, length-sets}
use borrow.Author.Tests.{leb-true}
use Rattle.std.specs.Prelude.{Result, Ok, Err}
use Rattle.lists.specs.Lists.{range, joined}
use Rattle.grid.specs.Window.{flat, neighbours}
use Rattle.refusals.specs.declared.Refusal.{Refusal}
use Rattle.refusals.specs.declared.Refusal.TheVariants as refusal
use Rattle.refusals.specs.Refusals.{Tested}
use Rattle.refusals.specs.Tests.{position_tested}
use Rattle.blocks.specs.Blocks.{Block}
use Rattle.frontier.specs.Frontier.{frontier}
use Rattle.groups.specs.Groups.{firsts}
use Rattle.search.specs.Solutions.{solutions}
use Rattle.tables.specs.declared.TableAnswer.{TableAnswer}
use Rattle.tables.specs.Tables.{table_with, TableSeen, table_seen, table_refused, table_of, block_asked, table_after_tests, cal_all_solution, row_at}
use Rattle.text.specs.declared.Text.{Text}
use Rattle.text.specs.Text.{decimal, Wrote}
use Rattle.text.proofs.Writing.{wrote_both}
use Rattle.show.specs.Cells.{cells_text}
use Rattle.table_lines.specs.Tables.{rows_of, next_row, rows_text, table_text, RowsWithin, seen_text, block_table}

-- ---- rows

-- a row ends inside the table
pub row_within : (s g i n : ℕ) → i < s → s * g ≤ n → i * g + g ≤ n
row_within s g i n h room =
    let rows : suc i * g ≤ s * g = mul-le-mul_right g h in
    omega (arith, suc-mul i g)

module _ (table : List ℕ) (g : ℕ) where
  pub rows_none : (s : ℕ) → s ≤ 0 → rows_text (rows_of table g s) ≡ 32 ∷ 45 ∷ []
  unfolding rows_text
  rows_none zero h = refl
  rows_none (suc s) h = absurd (not-suc-le-zero h)

  pub rows_some : (s : ℕ) → 0 < s → rows_text (rows_of table g s) ≡ cells_text (row_at g table 0) ++ joined (map next_row (map (row_at g table) (range 1 (s - 1))))
  unfolding rows_text
  rows_some zero h = absurd (not-suc-le-zero h)
  rows_some (suc s) h =
      let e : s ≡ suc s - 1 = omega arith in
      ap (λ (n : ℕ). cells_text (row_at g table 0) ++ joined (map next_row (map (row_at g table) (range 1 n)))) e

-- ---- the table of a block

pub listed_written : {before first second third fourth fifth sixth after : Text} (table : List ℕ) (g s : ℕ)
    → Wrote before first (32 ∷ 91 ∷ 103 ∷ 114 ∷ 111 ∷ 117 ∷ 112 ∷ 115 ∷ 32 ∷ []) → Wrote first second (decimal g)
    → Wrote second third (32 ∷ 115 ∷ 111 ∷ 108 ∷ 117 ∷ 116 ∷ 105 ∷ 111 ∷ 110 ∷ 115 ∷ 32 ∷ []) → Wrote third fourth (decimal s)
    → Wrote fourth fifth (32 ∷ 114 ∷ 111 ∷ 119 ∷ 115 ∷ []) → Wrote fifth sixth (rows_text (rows_of table g s))
    → Wrote sixth after (93 ∷ [])
    → Wrote before after (table_text (table_with s g) table)
unfolding table_text
listed_written table g s groups many solved few listed rows bracket =
    wrote_both (wrote_both (wrote_both groups many) (wrote_both (wrote_both solved few) (wrote_both listed rows))) bracket

-- ---- the rows that are answered stand inside the table

table_within : (b : Block) (t : List ℕ) → RowsWithin (table_of b t).answer (table_of b t).table
unfolding table_of
table_within b t = go (leb (length (solutions b) * length (firsts b)) (length t)) refl
  where
    listed : TableSeen
    listed = table_seen (table_with (length (solutions b)) (length (firsts b))) (sets t 0 (joined (solutions b)))

    go : (c : Bool) → leb (length (solutions b) * length (firsts b)) (length t) ≡ c
        → RowsWithin (cond c listed (table_refused refusal.Table t)).answer (cond c listed (table_refused refusal.Table t)).table
    go true e = rw length-sets (leb-true _ _ e)
    go false e = omega arith

asked_within : (bs : List Block) (n : ℕ) (t : List ℕ) → RowsWithin (block_asked bs n t).answer (block_asked bs n t).table
unfolding block_asked
asked_within bs n t = go (ltb n (length bs))
  where
    asked : TableSeen
    asked = table_of (get_or bs n (record { cells = []; equations = [] })) t

    go : (c : Bool) → RowsWithin (cond c asked (table_refused refusal.Block t)).answer (cond c asked (table_refused refusal.Block t)).table
    go true = table_within _ t
    go false = omega arith

module _ (rows columns : ℕ) (p : List ℕ) (n : ℕ) (t : List ℕ) where
  call_within : RowsWithin (cal_all_solution flat rows columns p n t).answer (cal_all_solution flat rows columns p n t).table
  unfolding cal_all_solution
  call_within = go (position_tested rows columns p)
    where
      asked : TableSeen
      asked = block_asked (frontier (neighbours flat rows columns) p) n t

      go : (x : Tested) → RowsWithin (table_after_tests x asked t).answer (table_after_tests x asked t).table
      go (Ok _) = asked_within (frontier (neighbours flat rows columns) p) n t
      go (Err r) = omega arith

  pub seen_within : {a : Result TableAnswer Refusal} {after : List ℕ} → table_seen a after ≡ cal_all_solution flat rows columns p n t → RowsWithin a after
  seen_within e = subst (λ (w : TableSeen). RowsWithin w.answer w.table) (sym e) call_within

-- ---- what the caller sees

pub block_written : {before after : Text} (rows columns : ℕ) (p : List ℕ) (k : ℕ) {a : Result TableAnswer Refusal} {table : List ℕ}
    → table_seen a table ≡ cal_all_solution flat rows columns p k (replicate 16384 0) → Wrote before after (table_text a table)
    → Wrote before after (block_table rows columns p k)
unfolding block_table
block_written {before} {after} rows columns p k e h = subst (λ (w : TableSeen). Wrote before after (seen_text w)) e h
