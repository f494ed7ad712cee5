-- `pair_at` meets its contract: each of its ways is the form of the definition for the words that were read. Assumes nothing.
use mathlib.Core.Path.{◌≡◌, refl, sym, ◌∙◌}
use mathlib.Core.List.{List}
use Prim.Native.Nat.{ℕ}
use Rattle.std.specs.Prelude.{None}
use Rattle.text.specs.declared.Word.{Word}
use Rattle.text.specs.declared.Word.TheVariants.{Number, End, Other}
use Rattle.lines.specs.Lines.{pair_with, pair_after, pair_at}
use Rattle.lines.proofs.pair_at.Goals as goal

-- a word that is no number is none of two
no_second : (first : ℕ) (w : Word) → ((n next : ℕ) → w ≡ Number n next → ⊥) → None ≡ pair_with first w
no_second first (Number n next) h = absurd (h n next refl)
no_second first End h = refl
no_second first Other h = refl

no_first : (line : List ℕ) (w : Word) → ((n next : ℕ) → w ≡ Number n next → ⊥) → None ≡ pair_after line w
no_first line (Number n next) h = absurd (h n next refl)
no_first line End h = refl
no_first line Other h = refl

pub returns-in_default : goal.returns-in_default
unfolding pair_at
returns-in_default c = rw (sym c.number_at.ensures) (no_first _ _ c.in_default.not-Number)

pub returns-in_default-number_at : goal.returns-in_default-number_at
unfolding pair_at
returns-in_default-number_at c = rw (sym c.number_at.ensures ∙ c.in-Number.is, sym c.number_at-2.ensures) (no_second _ _ c.in_default-number_at.not-Number)

pub returns : goal.returns
unfolding pair_at
returns c = rw (sym c.number_at.ensures ∙ c.in-Number.is, sym c.number_at-2.ensures ∙ c.in-Number-number_at.is)
