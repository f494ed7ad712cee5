-- The answer of a call on a board to a line that is readable, by which answer it is, whatever the call answers: its text is that of the line, so who writes the one has
-- written the other. By it go pattern_line and bbbv_line. And that of unsolvable_structure. Assumes nothing.
use Rattle.std.specs.Prelude.{◌≡◌, Bool, List, ℕ, Some, Option, Result}
use Rattle.refusals.specs.declared.Refusal.{Refusal}
use mathlib.Core.Path.{sym, ap, subst, ◌∙◌}
use Rattle.text.specs.declared.Text.{Text}
use Rattle.text.specs.Text.{Written, Wrote}
use Rattle.lines.specs.declared.Line.{Line}
use Rattle.lines.specs.Lines.{line_of, answer_text}
use Rattle.board_lines.specs.Patterns.{pattern_text, pattern_of, pattern_line}

-- the text of what was read of a line, or that it is unreadable
abbrev pub line_text : (Line → List ℕ) → List ℕ → List ℕ
line_text text line = answer_text text (line_of line)

-- `of` is what the call answers to what was read, `text` the text of an answer
module _ {A : Type 0} (text : A → List ℕ) (of : Line → A) (line : List ℕ) (read : Line) (is : Some read ≡ line_of line) where
  pub answer_told : {known answer : A} → answer ≡ of read → answer ≡ known → text known ≡ line_text (λ l. text (of l)) line
  answer_told told which = ap text (sym which ∙ told) ∙ ap (λ (o : Option Line). answer_text (λ l. text (of l)) o) is

  -- so of a writer, which puts it behind what it had written
  pub answer_written : {before after : Text} {known answer : A} → answer ≡ of read → answer ≡ known → Wrote before after (text known) → Wrote before after (line_text (λ l. text (of l)) line)
  answer_written {before} {after} told which w = subst (λ (x : List ℕ). Wrote before after x) (answer_told told which) w

  -- and of a buffer, which it is written to the front of
  pub answer_written_at : {b after : List ℕ} {r : ℕ} {known answer : A} → answer ≡ of read → answer ≡ known → Written b 0 (text known) after r → Written b 0 (line_text (λ l. text (of l)) line) after r
  answer_written_at {b} {after} {r} told which w = subst (λ (x : List ℕ). Written b 0 x after r) (answer_told told which) w

-- so of unsolvable_structure
module _ (line : List ℕ) (read : Line) (is : Some read ≡ line_of line) {b after : List ℕ} {r : ℕ} where
  pub pattern_line_written : {known : Result Bool Refusal} (answer : Result Bool Refusal) → answer ≡ pattern_of read → answer ≡ known
      → Written b 0 (pattern_text known) after r → Written b 0 (pattern_line line) after r
  unfolding pattern_line
  pattern_line_written answer told which w = answer_written_at pattern_text pattern_of line read is told which w
