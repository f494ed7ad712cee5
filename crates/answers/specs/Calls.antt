-- Cited by no public contract. The calls by name, and what each answers to a line. Assumes nothing.
use Rattle.std.specs.Prelude.{List, [], ◌∷◌, ℕ, Bool, Option, find}
use Rattle.std.specs.Str.{bytes_eq}
use lib.Chars.{codes}
use Rattle.frontier_lines.specs.Frontier.{frontier_line}
use Rattle.deductions.specs.declared.Rule.TheVariants as rule
use Rattle.records.specs.declared.BoardMark.TheVariants as mark
use Rattle.rule_lines.specs.Deductions.{deduction_line}
use Rattle.table_lines.specs.Tables.{table_line}
use Rattle.board_lines.specs.Patterns.{pattern_line}
use Rattle.board_lines.specs.Bbbv.{bbbv_line}
use Rattle.board_lines.specs.Verdicts.{verdict_line}
use Rattle.answers.specs.declared.Call.{Call}
use Rattle.answers.specs.declared.Call.TheVariants.{Frontier, Direct, Minus, Pattern, Bbbv, Enumerate, Verdict, Total, Table}

-- the name of a call, by which it is asked for
abbrev pub call_name : Call → List ℕ
call_name Frontier = codes "frontier"
call_name Direct = codes "direct"
call_name Minus = codes "minus"
call_name Pattern = codes "pattern"
call_name Bbbv = codes "bbbv"
call_name Enumerate = codes "enumerate"
call_name Verdict = codes "verdict"
call_name Total = codes "total"
call_name Table = codes "table"

-- all of them
abbrev pub calls : List Call
calls = Frontier ∷ Direct ∷ Minus ∷ Pattern ∷ Bbbv ∷ Enumerate ∷ Verdict ∷ Total ∷ Table ∷ []

-- is the word this call's name?
abbrev pub names : List ℕ → Call → Bool
names word call = bytes_eq (call_name call) word

-- the call that a word names
abbrev pub call_named : List ℕ → Option Call
call_named word = find (names word) calls

-- what a call answers to a line
unfoldable pub call_line : Call → List ℕ → List ℕ
call_line Frontier line = frontier_line line
call_line Direct line = deduction_line rule.Direct line
call_line Minus line = deduction_line rule.Minus line
call_line Pattern line = pattern_line line
call_line Bbbv line = bbbv_line line
call_line Enumerate line = deduction_line rule.Enumerate line
call_line Verdict line = verdict_line mark.Plain line
call_line Total line = verdict_line mark.Total line
call_line Table line = table_line line
