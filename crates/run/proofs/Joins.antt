-- A part of the input answered, and then what it left: together they answer the part as a whole. So a loop that answers line after line answers all that it comes to. Assumes
-- nothing.
use mathlib.Core.Path.{◌≡◌, sym, ap, ◌∙◌}
use mathlib.Core.Bool.{Bool, true, cond}
use mathlib.Core.List.{List, [], ◌++◌, append_assoc}
use Prim.Native.Nat.{ℕ, ◌+◌}
use native.Mathlib.Omega.{arith}
use lib.ListN.{length, take, drop, length-append, length-drop}
use lib.Seq.{length-take-le, take-append-add, drop-drop}
use Rattle.run.specs.declared.Part.{Part}
use Rattle.run.specs.Run.{verdicts, text_from, tally, no_tally, tally_sum}
use Rattle.run.specs.Parts.{goes_on, Follows, Answers}
use Rattle.run.specs.Steps.{part_sum}
use Rattle.run.proofs.Texts.{tally_assoc}

module _ (input : List ℕ) (ended : Bool) (number : ℕ) (a b : Part) (before behind : List ℕ)
    (first : Answers input ended number a before) (on : goes_on a.state ≡ true) (second : Answers (drop a.read input) ended a.next b behind) where
  -- the buffer after both
  abbrev out : List ℕ
  out = take a.len before ++ behind

  front_long : length (take a.len before) ≡ a.len
  front_long = length-take-le a.len before first.written_within

  both_written : take (a.len + b.len) out ≡ take a.len before ++ take b.len behind
  both_written = ap (λ (n : ℕ). take (n + b.len) out) (sym front_long) ∙ take-append-add (take a.len before) behind b.len

  both_read : drop (a.read + b.read) input ≡ drop b.read (drop a.read input)
  both_read = sym (drop-drop b.read a.read input)

  both_text : (rest : List ℕ) → Follows ended rest
      → text_from number (verdicts (input ++ rest))
      ≡ take (a.len + b.len) out ++ cond (goes_on b.state) (text_from b.next (verdicts (drop (a.read + b.read) input ++ rest))) []
  both_text rest f =
      rw (both_written, both_read)
      ((rw on at (first.text rest f))
      ∙ ap (take a.len before ++◌) (second.text rest f)
      ∙ sym (append_assoc (take a.len before) (take b.len behind) _))

  both_counted : (rest : List ℕ) → Follows ended rest
      → tally (verdicts (input ++ rest))
      ≡ tally_sum (tally_sum a.tally b.tally) (cond (goes_on b.state) (tally (verdicts (drop (a.read + b.read) input ++ rest))) no_tally)
  both_counted rest f =
      rw both_read
      ((rw on at (first.counted rest f))
      ∙ ap (tally_sum a.tally) (second.counted rest f)
      ∙ sym (tally_assoc a.tally b.tally _))

  pub answers_join : Answers input ended number (part_sum a b) out
  answers_join = record {
    read_within = omega (arith, first.read_within, second.read_within, length-drop a.read input);
    written_within = omega (arith, front_long, second.written_within, length-append (take a.len before) behind);
    text = both_text;
    counted = both_counted;
    complete = λ is. both_read ∙ second.complete is;
    stopped = λ refusal is. rw both_read (second.stopped refusal is);
  }
