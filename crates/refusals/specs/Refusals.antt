-- The refusals of SPECIFICATION 3.1, each with its number, and the rule that the lowest is given where several apply (3.2). Assumes nothing.
use Rattle.std.specs.Prelude.{Bool, cond, List, [], ◌∷◌, ℕ, Result, Ok, Err, ⊤}
use Rattle.refusals.specs.declared.Refusal.{Refusal}
use Rattle.refusals.specs.declared.Refusal.TheVariants.{Size, Length, Cell, Start, Number, Contradiction, Block, Table, Mark, Short, StartMine}

-- the number of a refusal; 7, which a start of 255,255 had, is not given again
abbrev pub refusal_number : Refusal → ℕ
refusal_number Size = 1
refusal_number Length = 2
refusal_number Cell = 3
refusal_number Start = 4
refusal_number Number = 5
refusal_number Contradiction = 6
refusal_number Block = 8
refusal_number Table = 9
refusal_number Mark = 10
refusal_number Short = 11
refusal_number StartMine = 13

-- what a call's tests answer, and the answer where none of them fails
abbrev pub Tested : Type 0
Tested = Result ⊤ Refusal

abbrev pub Accepted : Tested
Accepted = Ok tt

-- the number that a caller sees of the tests' answer, and of a call's: 0 where nothing is refused
abbrev pub tested_number : {A : Type 0} → Result A Refusal → ℕ
tested_number (Ok _) = 0
tested_number (Err r) = refusal_number r

-- a test with the refusal that its failure gives
pub record Test : Type 0 where
  pub passes : Bool
  pub else : Refusal

abbrev pub test : Bool → Refusal → Test
test passes else = record { passes = passes; else = else }

-- the first test that fails gives its refusal
abbrev pub tested : List Test → Tested
tested [] = Accepted
tested (t ∷ ts) = cond t.passes (tested ts) (Err t.else)
