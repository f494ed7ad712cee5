-- The verdicts of an input, record by record: those of the first record and of what follows it. The bound in the definition is never met, since a record has six bytes or more. And what
-- follows a whole record, or an unknown mark, plays no part in its verdict, so that each record is judged by its own bytes wherever the input is cut. Assumes nothing.
use mathlib.Core.Path.{◌≡◌, refl, sym, ap, ◌∙◌}
use mathlib.Core.List.{List, [], ◌∷◌, ◌++◌}
use Prim.Native.Nat.{ℕ, zero, suc, ◌-◌, ◌≤◌}
use native.Mathlib.Omega.{arith}
use lib.ListN.{length, drop, length-drop}
use lib.Seq.{drop-append-le}
use Rattle.std.specs.Prelude.{None, Some, Ok, Err}
use Rattle.refusals.specs.declared.Refusal.{Refusal}
use Rattle.refusals.specs.declared.Refusal.TheVariants.{Mark}
use Rattle.records.specs.declared.Head.{Head}
use Rattle.records.specs.Records.{record_length, record_of, cells_in}
use Rattle.record_lines.specs.Answers.{board_verdict}
use Rattle.records.proofs.RecordKinds.{six_or_more, whole_inside, whole_beside, mark_beside}
use Rattle.run.specs.Run.{verdicts_after, verdicts_of, verdicts}

-- ---- the bound on records is never met

-- where no byte is left there is no verdict
none : (k : ℕ) (input : List ℕ) → length input ≤ 0 → verdicts_of k input ≡ []
unfolding record_of
none zero input h = refl
none (suc k) [] h = refl
none (suc k) (x ∷ l) h = absurd (omega arith)

-- what follows the first record is shorter
fewer : (x : ℕ) (l : List ℕ) → length (drop (record_length (x ∷ l)) (x ∷ l)) ≤ length l
fewer x l = omega (arith, length-drop (record_length (x ∷ l)) (x ∷ l), six_or_more (x ∷ l))

-- so that any bound that is no less than the number of bytes gives the same verdicts
enough : (k m : ℕ) (input : List ℕ) → length input ≤ k → length input ≤ m → verdicts_of k input ≡ verdicts_of m input
enough zero m input h g = sym (none m input h)
enough (suc k) zero input h g = none (suc k) input g
enough (suc k) (suc m) [] h g = none (suc k) [] (omega arith) ∙ sym (none (suc m) [] (omega arith))
enough (suc k) (suc m) (x ∷ l) h g =
    ap (verdicts_after (record_of (x ∷ l)) (x ∷ l))
    (enough k m (drop (record_length (x ∷ l)) (x ∷ l)) (omega (arith, fewer x l)) (omega (arith, fewer x l)))

-- the verdicts of an input: by what stands at its front
pub verdicts_step : (input : List ℕ) → verdicts input ≡ verdicts_after (record_of input) input (verdicts (drop (record_length input) input))
unfolding verdicts record_of
verdicts_step [] = refl
verdicts_step (x ∷ l) =
    ap (verdicts_after (record_of (x ∷ l)) (x ∷ l))
    (enough (length l) (length (drop (record_length (x ∷ l)) (x ∷ l))) (drop (record_length (x ∷ l)) (x ∷ l)) (fewer x l) (omega arith))

-- ---- what stands at the front of a part of the input, with anything behind it

module _ (input rest : List ℕ) where
  -- a whole record: its own verdict, and the verdicts of what follows it
  pub verdicts_whole : (head : Head) → record_of input ≡ Ok (Some head)
      → verdicts (input ++ rest) ≡ board_verdict head (cells_in input) ∷ verdicts (drop (record_length input) input ++ rest)
  verdicts_whole head is =
      let beside = whole_beside input rest head is in
      verdicts_step (input ++ rest)
      ∙ rw (
        beside.same_record ∙ is,
        beside.same_cells,
        beside.same_length,
        drop-append-le (record_length input) input rest (whole_inside input head is),
      )

  -- an unknown mark is the last
  pub verdicts_mark : record_of input ≡ Err Mark → verdicts (input ++ rest) ≡ Err Mark ∷ []
  verdicts_mark is = verdicts_step (input ++ rest) ∙ rw (mark_beside input rest is)

-- where nothing follows, so is every damaged record
pub verdicts_damaged : (input : List ℕ) (refusal : Refusal) → record_of input ≡ Err refusal → verdicts input ≡ Err refusal ∷ []
verdicts_damaged input refusal is = verdicts_step input ∙ rw is

pub verdicts_end : (input : List ℕ) → record_of input ≡ Ok None → verdicts input ≡ []
verdicts_end input is = verdicts_step input ∙ rw is
