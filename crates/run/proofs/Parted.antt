-- However the input is cut: a program reads some bytes, has them answered together with those that it kept, writes what it is told, and keeps what was not read. Where the run has come
-- to its end, all that it wrote is the text of the whole input. From the contract of `answer_part` alone. Assumes nothing.
use mathlib.Core.Path.{◌≡◌, sym, ap, ◌∙◌}
use mathlib.Core.Bool.{Bool, true, false}
use mathlib.Core.List.{List, [], ◌++◌, append_assoc, append-nil}
use Prim.Native.Nat.{ℕ}
use lib.ListN.{take, drop}
use Rattle.run.specs.declared.Part.{Part}
use Rattle.run.specs.Run.{verdicts, text_from, printed}
use Rattle.run.specs.Parts.{goes_on, Follows, Answers}

-- the turns of a program that holds the bytes `held` before line `number`, while the bytes `coming` are still to be read, and that writes the text `written` until its run ends
pub data Turns : List ℕ → ℕ → List ℕ → List ℕ → Type 0 where
  -- the bytes x are read, and the run ends
  last : (held : List ℕ) (number : ℕ) (x rest : List ℕ) (ended : Bool) (r : Part) (out : List ℕ) → Follows ended rest
      → Answers (held ++ x) ended number r out → goes_on r.state ≡ false → Turns held number (x ++ rest) (take r.len out)
  -- the bytes x are read, and the run goes on with those not read
  next : (held : List ℕ) (number : ℕ) (x rest : List ℕ) (ended : Bool) (r : Part) (out later : List ℕ) → Follows ended rest
      → Answers (held ++ x) ended number r out → goes_on r.state ≡ true
      → Turns (drop r.read (held ++ x)) r.next rest later → Turns held number (x ++ rest) (take r.len out ++ later)

-- what is written is the text of the bytes held and those to come
pub turns_text : {held : List ℕ} {number : ℕ} {coming written : List ℕ} → Turns held number coming written → written ≡ text_from number (verdicts (held ++ coming))
turns_text (last held number x rest ended r out f a over) =
    sym (ap (λ (l : List ℕ). text_from number (verdicts l)) (sym (append_assoc held x rest)) ∙ (rw over at (a.text rest f)) ∙ append-nil (take r.len out))
turns_text (next held number x rest ended r out later f a on t) =
    ap (take r.len out ++◌) (turns_text t)
    ∙ sym (ap (λ (l : List ℕ). text_from number (verdicts l)) (sym (append_assoc held x rest)) ∙ (rw on at (a.text rest f)))

-- a program that begins with nothing held and with line 0 prints what the definition gives of its input, wherever its reads cut it
pub cut_anywhere : (input written : List ℕ) → Turns [] 0 input written → written ≡ printed input
unfolding printed
cut_anywhere input written t = turns_text t
