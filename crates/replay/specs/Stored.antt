-- Cited by no public contract. When a stored answer counts as ours, how cases are counted, and what comes behind one. Assumes nothing.
use Rattle.std.specs.Prelude.{Bool, false, cond, List, [], ℕ, ◌+◌, ltb, take, Option, Some, None}
use Rattle.lists.specs.Lists.{same}
use Rattle.answers.specs.declared.Call.{Call}
use Rattle.answers.specs.Calls.{call_line}
use Rattle.replay.specs.declared.Counts.{Counts}
use Rattle.replay.specs.declared.Coming.TheVariants.{Asked}
use Rattle.replay.specs.declared.Replay.{Replay}

-- the line asked and the stored answer fit their buffers, and the answer is what the call answers, as far as that has room
unfoldable pub agreeing : Call → Option (List ℕ) → Option (List ℕ) → ℕ → Bool
agreeing call (Some asked) (Some answer) room = same (take room (call_line call asked)) answer
agreeing call (Some asked) None room = false
agreeing call None answer room = false

-- one case more, up to a count that no file has
abbrev pub one_more : ℕ → ℕ
one_more n = cond (ltb n 4294967295) (n + 1) n

-- a case that agrees counts as one, any other as one that differs
abbrev pub counted : Bool → Counts → Counts
counted agrees s = record {
  agree = cond agrees (one_more s.agree) s.agree;
  differ = cond agrees s.differ (one_more s.differ);
}

-- a case is counted, and the next line that comes is asked; `out` is what our answer has left in its buffer
abbrev pub judged : Bool → List ℕ → Replay → Replay
judged agrees out s = record {
  call = s.call;
  named = s.named;
  coming = Asked;
  asked = Some [];
  answer = Some [];
  out = out;
  counts = counted agrees s.counts;
}
