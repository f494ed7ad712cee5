-- What stands at the front of a part of the input, read back from what `next_verdict` tells: where it waits, more bytes must come, and fewer than a whole record are there; where the input
-- has ended, nothing is left; a damaged record is the last whatever follows; a board is that of a whole record. Assumes nothing.
use Rattle.verdict.specs.Verdict.{VerdictAnswer}
use mathlib.Core.Path.{◌≡◌, refl, ap}
use mathlib.Core.Logic.{inl, inr}
use mathlib.Core.Bool.{Bool, true, false}
use mathlib.Core.List.{List, [], ◌∷◌, ◌++◌, append-nil}
use Prim.Native.Nat.{ℕ, ◌-◌, ◌<◌}
use native.Mathlib.Omega.{arith}
use lib.ListN.{length, get_or, take, drop}
use Rattle.std.specs.Prelude.{Option, None, Some, Result, Ok, Err}
use Rattle.refusals.specs.declared.Refusal.{Refusal}
use Rattle.refusals.specs.declared.Refusal.TheVariants.{Mark}
use Rattle.records.specs.declared.Head.{Head}
use Rattle.records.specs.Records.{record_length, record_of, cells_in}
use Rattle.record_lines.specs.Answers.{board_verdict}
use Rattle.records.proofs.RecordKinds.{six_or_more, length_most, DamagedBy, end_nothing, damaged_kinds}
use Rattle.run.specs.declared.Next.{Next}
use Rattle.run.specs.declared.Next.TheVariants.{Waits, Ended, Damage, Board}
use Rattle.run.specs.Run.{verdicts}
use Rattle.run.specs.Parts.{Follows}
use Rattle.run.specs.Steps.{next_after_end, next_after_damage, next_after, next_of}
use Rattle.run.proofs.Verdicts.{verdicts_mark, verdicts_damaged}

-- ---- what is told, by what stands there

module _ (input : List ℕ) (ended : Bool) where
  pub next_end : {r : Next} → record_of input ≡ Ok None → r ≡ next_after_end ended → r ≡ next_of ended input
  unfolding next_of
  next_end is e = rw is e

  pub next_damage : {r : Next} (refusal : Refusal) → record_of input ≡ Err refusal → r ≡ next_after_damage refusal ended → r ≡ next_of ended input
  unfolding next_of
  next_damage refusal is e = rw is e

  pub next_whole : {v : VerdictAnswer} (head : Head) (end : ℕ) → record_of input ≡ Ok (Some head) → end ≡ record_length input
      → v ≡ board_verdict head (take (end - 6) (drop 6 input)) → Board v end ≡ next_of ended input
  unfolding next_of
  next_whole head end is e judged = rw (is, judged, e)

-- ---- and read back

module _ (input : List ℕ) where
  -- a board is that of a whole record
  pub record JudgedBoard (v : VerdictAnswer) (size : ℕ) : Type 0 where
    pub head : Head
    pub is : record_of input ≡ Ok (Some head)
    pub judged : v ≡ board_verdict head (cells_in input)
    pub whole : size ≡ record_length input

  -- what each answer tells of the input: it waits where the input has not ended and has fewer bytes than its record, and a damaged record is the last, whatever follows
  abbrev Told : Bool → Next → Type 0
  Told ended Waits = (ended ≡ false) × (length input < record_length input)
  Told ended Ended = (ended ≡ true) × (record_of input ≡ Ok None)
  Told ended (Damage refusal) = (record_of input ≡ Err refusal) × ((rest : List ℕ) → Follows ended rest → verdicts (input ++ rest) ≡ Err refusal ∷ [])
  Told ended (Board v size) = JudgedBoard v size

  told : (ended : Bool) → Told ended (next_of ended input)
  unfolding next_of
  told ended = go ended (record_of input) refl
    where
      go : (t : Bool) (x : Result (Option Head) Refusal) → record_of input ≡ x → Told t (next_after x t input)
      go true (Ok None) is = (refl, is)
      go false (Ok None) is = (refl, omega (arith, ap length (end_nothing input is), six_or_more input))
      go true (Err refusal) is = (is, λ rest g. rw (g refl, append-nil input) (verdicts_damaged input refusal is))
      go false (Err refusal) is = kinds (damaged_kinds input refusal is)
        where
          kinds : DamagedBy input refusal → Told false (next_after_damage refusal false)
          kinds (inl (s, h)) = rw s (refl, h)
          kinds (inr (m, _, _)) = let known : record_of input ≡ Err Mark = rw m at is in rw m (known, λ rest _. verdicts_mark input rest known)
      go t (Ok (Some head)) is = record { head = head; is = is; judged = refl; whole = refl }

  pub waits_short : (ended : Bool) → ((k : ℕ) → get_or input k 0 < 256) → next_of ended input ≡ Waits → (ended ≡ false) × (length input < 65031)
  waits_short ended bytes e =
      let waits : Told ended Waits = rw e at (told ended) in
      (waits.0, omega (arith, waits.1, length_most input bytes))

  pub ended_nothing : (ended : Bool) → next_of ended input ≡ Ended → (ended ≡ true) × (record_of input ≡ Ok None)
  ended_nothing ended e = rw e at (told ended)

  pub damage_last : (ended : Bool) (refusal : Refusal) → next_of ended input ≡ Damage refusal
      → (record_of input ≡ Err refusal) × ((rest : List ℕ) → Follows ended rest → verdicts (input ++ rest) ≡ Err refusal ∷ [])
  damage_last ended refusal e = rw e at (told ended)

  pub board_judged : (ended : Bool) (v : VerdictAnswer) (size : ℕ) → next_of ended input ≡ Board v size → JudgedBoard v size
  board_judged ended v size e = rw e at (told ended)
