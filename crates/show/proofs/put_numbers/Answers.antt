-- `show::put_numbers` meets its contract: the first number and those behind it are one text, and no numbers are a dash. Assumes nothing.
use mathlib.Core.Path.{◌≡◌, refl}
use mathlib.Core.List.{List, [], ◌∷◌, ◌++◌, map}
use Prim.Native.Nat.{ℕ, ◌-◌, ◌≤◌, ◌<◌}
use native.Mathlib.Omega.{arith}
use lib.ListN.{length, get_or, take, drop}
use lib.Seq.{take-length}
use Rattle.lists.specs.Lists.{joined}
use Rattle.text.specs.Text.{decimal}
use Rattle.show.specs.Cells.{marked_text}
use Rattle.text.proofs.Writing.{wrote_both}
use Rattle.show.specs.Blocks.{numbers_text}
use Rattle.show.proofs.put_numbers.Goals as goal

no_numbers : (l : List ℕ) → length l < 1 → numbers_text l ≡ 45 ∷ []
unfolding numbers_text
no_numbers [] h = refl
no_numbers (x ∷ l) h = absurd (omega arith)

some_numbers : (l : List ℕ) → 1 ≤ length l → numbers_text l ≡ decimal (get_or l 0 0) ++ joined (map (marked_text 44) (take (length l - 1) (drop 1 l)))
unfolding numbers_text
some_numbers [] h = absurd (omega arith)
some_numbers (x ∷ l) h =
    let e : length (x ∷ l) - 1 ≡ length l = omega arith in
    let f : take (length (x ∷ l) - 1) l ≡ l = rw e (take-length l) in
    rw f

pub returns-in-empty : goal.returns-in-empty
returns-in-empty c = rw (no_numbers _ c.in-empty.len_below) c.byte.ensures

pub returns-in-len1-up : goal.returns-in-len1-up
returns-in-len1-up c = rw (some_numbers _ c.in-len1-up.len_at_least) (wrote_both (rw c.from.ensures at c.number.ensures) c.put_each.ensures)
