-- Cited by no public contract. What a line is after a byte is put behind it, and after its bytes are blanked. Assumes nothing.
use Rattle.std.specs.Prelude.{ℕ, List, [], ◌∷◌, ◌++◌, Option, Some, None, length, ltb, cond, replicate}
use Rattle.std.specs.Option.{option_map}
use denote.Ref.{Bor}

-- the line and a byte more, or `None` where it is too long then
abbrev pub put_within : ℕ → Option (List ℕ) → ℕ → Option (List ℕ)
put_within n None byte = None
put_within n (Some line) byte = cond (ltb (length line) n) (Some (line ++ byte ∷ [])) None

-- the line with a 0 in the place of each byte
abbrev pub blanked : Option (List ℕ) → Option (List ℕ)
blanked line = option_map (λ bytes. replicate (length bytes) 0) line

-- what a slice that may be there reads as
abbrev pub text_of : Option (Bor (List ℕ)) → Option (List ℕ)
text_of r = option_map (λ s. s.now) r
