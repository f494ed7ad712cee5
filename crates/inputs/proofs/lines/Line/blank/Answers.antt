-- `Line::blank` meets its contract: the front of a buffer of 0s is so many 0s. Assumes nothing.
use mathlib.Core.Path.{◌≡◌, refl, sym, ap, ◌∙◌}
use mathlib.Core.List.{List}
use Prim.Native.Nat.{ℕ, ◌≤◌}
use lib.ListN.{length, take}
use lib.Seq.{length-take-le}
use Rattle.std.specs.Prelude.{Option, Some, None, replicate}
use Rattle.std.specs.Option.{option_map}
use Rattle.lists.proofs.Arrays.{take_replicate}
use Rattle.inputs.specs.Lines.{blanked}
use Rattle.inputs.proofs.lines.Line.blank.Goals as goal

-- the front of a buffer, and that of a buffer of 0s as long
front_blanked : (len : Option ℕ) (bytes zeros : List ℕ) → zeros ≡ replicate (length bytes) 0 → ((n : ℕ) → len ≡ Some n → n ≤ length bytes)
    → option_map (λ (n : ℕ). take n zeros) len ≡ blanked (option_map (λ (n : ℕ). take n bytes) len)
front_blanked None bytes zeros is within = refl
front_blanked (Some n) bytes zeros is within =
    let few = within n refl in
    rw (is, length-take-le n bytes few) (ap Some (take_replicate n (length bytes) 0 few))

pub returns : goal.returns
returns g c =
    rw (← c.self.view_is) (front_blanked c.self.inside.len c.self.inside.bytes c.fill.new.self (c.fill.ensures.after (λ y h. h)) (λ n is. rw c.self.told (c.self.invariant n is)))
