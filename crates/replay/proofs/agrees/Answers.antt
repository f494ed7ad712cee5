-- `agrees` meets its contract: a line that does not fit its buffer does not agree; else our answer stands at the front of `out`, as far as that has room, and is compared
-- with the stored one. Rests on `Shown`. Assumes nothing.
use Rattle.std.proofs.Common.{◌≡◌, refl, ap, ◌∙◌, false, List, ℕ, take}
use Rattle.std.specs.Prelude.{Option, Some, None}
use Rattle.std.proofs.lemmas.Slice.Eq.{slice_eq-Decides}
use Rattle.std.proofs.lemmas.Bool.Decides.{Decides-eqb}
use Rattle.lists.specs.Lists.{same}
use Rattle.answers.specs.declared.Call.{Call}
use Rattle.replay.specs.Stored.{agreeing}
use Rattle.replay.proofs.Shown.{front_shown, same_is}
use Rattle.replay.proofs.agrees.Goals as goal

-- no stored answer agrees that did not fit its buffer
no_answer : (call : Call) (asked : Option (List ℕ)) (room : ℕ) → false ≡ agreeing call asked None room
unfolding agreeing
no_answer call None room = refl
no_answer call (Some asked) room = refl

pub returns-in_default : goal.returns-in_default
returns-in_default c = rw (← c.text-2.ensures, c.in_default.is-1) (no_answer _ _ _)

pub returns-in_default-2 : goal.returns-in_default-2
unfolding agreeing
returns-in_default-2 c = rw (← c.text.ensures, c.in_default.is-0)

pub returns : goal.returns
unfolding agreeing
returns c =
    let n = c.call_line-n.result in
    let written = c.call_line-n.ensures in
    let stored = c.in-Some-Some.answer.now in
    let ours = take n c.call_line-n.new.out in
    let equal = slice_eq-Decides Decides-eqb ours stored _ c.eq.ensures in
    rw (← c.text.ensures, ← c.text-2.ensures, c.in-Some-Some.is-0, c.in-Some-Some.is-1)
    (same_is _ ours stored equal.0 equal.1
    ∙ ap (λ (k : List ℕ). same k stored) (ap (take n) written.is ∙ front_shown c.args.out.now _ n written.next))
