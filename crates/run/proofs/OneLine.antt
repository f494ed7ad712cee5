-- What a step that answers one line comes to: nothing is done, the header is written, the input has ended, a damaged record is the last, or a whole record is judged. Each way is a
-- law: the step's part answers the input, and it is a `Step`. Rests on the laws of verdicts and of texts. Assumes nothing.
use Rattle.verdict.specs.Verdict.{VerdictAnswer}
use mathlib.Core.Path.{◌≡◌, refl, sym, ap, ◌∙◌}
use mathlib.Core.Bool.{Bool, true, false}
use mathlib.Core.List.{List, [], ◌∷◌, ◌++◌, append-nil}
use Prim.Native.Nat.{ℕ, ◌+◌, ◌≤◌, ◌<◌}
use native.Mathlib.Omega.{arith}
use lib.ListN.{length, drop}
use Rattle.std.specs.Prelude.{None, Some, Ok, Err}
use Rattle.refusals.specs.declared.Refusal.{Refusal}
use Rattle.records.specs.declared.Head.{Head}
use Rattle.records.specs.Records.{record_length, record_of, cells_in}
use Rattle.record_lines.specs.Answers.{board_verdict, line_text}
use Rattle.records.proofs.RecordKinds.{six_or_more, end_nothing, whole_inside}
use Rattle.text.specs.Text.{Written}
use Rattle.text.proofs.Writing.{written_within}
use Rattle.record_lines.proofs.LineRoom.{line_few, written_whole}
use Rattle.run.specs.declared.RunState.{RunState}
use Rattle.run.specs.declared.RunState.TheVariants.{GoesOn, Complete, Stopped}
use Rattle.run.specs.declared.Tally.{Tally}
use Rattle.run.specs.declared.Part.{Part}
use Rattle.run.specs.Run.{header, verdicts, text_from, tally_of, no_tally, tally}
use Rattle.run.specs.Parts.{Follows, Answers}
use Rattle.run.specs.declared.Next.TheVariants.{Ended, Damage, Board}
use Rattle.run.specs.Steps.{next_of, nothing_yet, header_part, line_part, AtFront, Few, Step}
use Rattle.run.proofs.Verdicts.{verdicts_whole, verdicts_end}
use Rattle.run.proofs.Fronts.{ended_nothing, damage_last, board_judged}
use Rattle.run.proofs.Texts.{text_header, text_line, text_none, line_some, tally_left, tally_one}

-- ---- a line in a buffer that has room for the longest

module _ {before after : List ℕ} {len : ℕ} (room : 88 ≤ length before) where
  pub header_at_front : Written before 0 header after len
      → AtFront header header_part (record { read = 0; len = len; next = 1; tally = no_tally; state = GoesOn }) after
  header_at_front w =
      let e : len ≡ 34 = omega (arith, w.next) in
      record { is = rw e refl; within = written_within w; stands = written_whole w (omega arith) }

  pub line_at_front : {counted : Tally} (number : ℕ) (v : VerdictAnswer) (size : ℕ) (state : RunState) → Written before 0 (line_text number v) after len → counted ≡ tally_of v
      → AtFront (line_text number v) (line_part number v size state) (record { read = size; len = len; next = number + 1; tally = counted; state = state }) after
  line_at_front number v size state w one =
      let e : len ≡ length (line_text number v) = omega (arith, w.next, line_few number v) in
      record { is = rw (e, one) refl; within = written_within w; stands = written_whole w (omega (arith, line_few number v)) }

-- ---- what each way comes to

module _ (input : List ℕ) (ended : Bool) (number : ℕ) (out : List ℕ) where
  -- nothing is done
  pub nothing_answers : Answers input ended number (nothing_yet number GoesOn) out
  nothing_answers = record {
    read_within = omega arith;
    written_within = omega arith;
    text = λ rest f. refl;
    counted = λ rest f. sym (tally_left _);
    complete = λ is. absurd (cc);
    stopped = λ refusal is. absurd (cc);
  }

  -- the input has ended, and nothing is left of it
  pub end_answers : 0 < number → ended ≡ true → record_of input ≡ Ok None → input ≡ [] → Answers input ended number (nothing_yet number Complete) out
  end_answers h e is none = record {
    read_within = omega arith;
    written_within = omega arith;
    text = λ rest f. rw (f e, append-nil input, verdicts_end input is) (text_none number h);
    counted = λ rest f. rw (f e, append-nil input, verdicts_end input is) refl;
    complete = λ _. none;
    stopped = λ refusal is. absurd (cc);
  }

-- a part with nothing counted or one verdict
module _ (input : List ℕ) (ended : Bool) (number : ℕ) (r : Part) (out : List ℕ) where
  -- the header
  pub header_answers : number ≡ 0 → AtFront header header_part r out → Answers input ended number r out
  header_answers e a = rw (e, a.is) (record {
    read_within = omega arith;
    written_within = rw a.is at a.within;
    text = λ rest f. text_header _ ∙ ap (◌++ text_from 1 (verdicts (input ++ rest))) (sym (rw a.is at a.stands));
    counted = λ rest f. sym (tally_left _);
    complete = λ is. absurd (cc);
    stopped = λ refusal is. absurd (cc);
  })

  -- a damaged record is the last, whatever follows
  pub last_answers : 0 < number → (refusal : Refusal) → record_of input ≡ Err refusal
      → ((rest : List ℕ) → Follows ended rest → verdicts (input ++ rest) ≡ Err refusal ∷ [])
      → AtFront (line_text number (Err refusal)) (line_part number (Err refusal) 0 (Stopped refusal)) r out → Answers input ended number r out
  last_answers h refusal is last a = rw a.is (record {
    read_within = omega arith;
    written_within = rw a.is at a.within;
    text = λ rest f.
        rw (last rest f)
        (text_line number (Err refusal) [] h
        ∙ ap (line_text number (Err refusal) ++◌) (text_none (number + 1) (omega arith))
        ∙ ap (◌++ []) (sym (rw a.is at a.stands)));
    counted = λ rest f. rw (last rest f) refl;
    complete = λ is. absurd (cc);
    stopped = λ other same. let e : refusal ≡ other = cc in rw (sym e) is;
  })

  -- a whole record
  pub next_answers : 0 < number → (head : Head) → record_of input ≡ Ok (Some head)
      → (v : VerdictAnswer) → v ≡ board_verdict head (cells_in input)
      → AtFront (line_text number v) (line_part number v (record_length input) GoesOn) r out → Answers input ended number r out
  next_answers h head is v judged a = rw a.is (record {
    read_within = whole_inside input head is;
    written_within = rw a.is at a.within;
    text = λ rest f.
        rw (verdicts_whole input rest head is, sym judged)
        (text_line number v _ h ∙ ap (◌++ text_from (number + 1) (verdicts (drop (record_length input) input ++ rest))) (sym (rw a.is at a.stands)));
    counted = λ rest f. rw (verdicts_whole input rest head is, sym judged) refl;
    complete = λ is. absurd (cc);
    stopped = λ refusal is. absurd (cc);
  })

-- ---- the ways through the step: `before` and `after` are the buffer, r is the part

module _ (input : List ℕ) (ended : Bool) (number : ℕ) (r : Part) (before after : List ℕ) where
  abbrev Done : Type 0
  Done = Answers input ended number r after × Step input ended number r before

  -- nothing is done where there is no room, no number, or too little input
  pub nothing_done : r ≡ nothing_yet number GoesOn → (88 ≤ length before → number < 18446744073709551615 → (ended ≡ false) × (length input < 65031)) → Done
  nothing_done e why = rw e (
    nothing_answers input ended number after,
    record {
      few = record { yes = omega arith; no = omega arith; refused = omega arith };
      lines_short = λ _. omega arith;
      numbers_near = λ _. omega arith;
      waits = λ room below _ _. why room below;
    },
  )

  pub header_done : number ≡ 0 → AtFront header header_part r after → Done
  header_done e a = (
    header_answers input ended number r after e a,
    rw a.is (record {
      few = record { yes = omega arith; no = omega arith; refused = omega arith };
      lines_short = λ _. omega arith;
      numbers_near = λ _. omega arith;
      waits = λ _ _ _ none. absurd (omega arith);
    }),
  )

  pub ended_done : 0 < number → next_of ended input ≡ Ended → r ≡ nothing_yet number Complete → Done
  ended_done h next e =
      let known = ended_nothing input ended next in
      rw e (
        end_answers input ended number after h known.0 known.1 (end_nothing input known.1),
        record {
          few = record { yes = omega arith; no = omega arith; refused = omega arith };
          lines_short = λ _. omega arith;
          numbers_near = λ _. omega arith;
          waits = λ _ _ on _. absurd (cc);
        },
      )

  -- a verdict's line has a byte or more, and at most 88
  few_line : (v : VerdictAnswer) (size : ℕ) (state : RunState) → Few (line_part number v size state)
  few_line v size state =
      let one = tally_one v in
      record {
        yes = omega (arith, one.0, line_some number v);
        no = omega (arith, one.1, line_some number v);
        refused = omega (arith, one.2, line_some number v);
      }

  pub last_done : 0 < number → (refusal : Refusal) → next_of ended input ≡ Damage refusal
      → AtFront (line_text number (Err refusal)) (line_part number (Err refusal) 0 (Stopped refusal)) r after → Done
  last_done h refusal next a =
      let known = damage_last input ended refusal next in (
        last_answers input ended number r after h refusal known.0 known.1 a,
        rw a.is (record {
          few = few_line (Err refusal) 0 (Stopped refusal);
          lines_short = λ on. absurd (cc);
          numbers_near = λ on. absurd (cc);
          waits = λ _ _ on _. absurd (cc);
        }),
      )

  pub next_done : 0 < number → (v : VerdictAnswer) (size : ℕ) → next_of ended input ≡ Board v size
      → AtFront (line_text number v) (line_part number v size GoesOn) r after → Done
  next_done h v size next a =
      let known = board_judged input ended v size next in
      let six : 6 ≤ size = omega (arith, known.whole, six_or_more input) in (
        next_answers input ended number r after h known.head known.is v known.judged
            (rw known.whole at a),
        rw a.is (record {
          few = few_line v size GoesOn;
          lines_short = λ _. omega (arith, six, line_few number v);
          numbers_near = λ _. omega (arith, six);
          waits = λ _ _ _ none. absurd (omega (arith, none, line_some number v));
        }),
      )
