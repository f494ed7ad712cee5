-- Cited by no public contract. What the functions of a walk are told and tell, of the structs that they are given: the same as of the lists in these.
-- Assumes nothing.
use Rattle.std.specs.Prelude.{Bool, map, ℕ, get_or}
use Rattle.search.specs.declared.Unmet.{Unmet}
use Rattle.search.specs.Solutions.{sum}
use Rattle.search.specs.Searching.{unset_of, tree_of}
use Rattle.counting.specs.declared.states.Met.{Met}
use Rattle.counting.specs.declared.walking.Counted.{Counted}
use Rattle.counting.specs.declared.walking.Walk.{Walk}
use Rattle.counting.specs.Counting.{Walked}
use Rattle.counting.specs.States.{Course, Underway, Right}

-- the mines that the groups from a place of the order on can hold
abbrev pub room_at : Walk → ℕ → ℕ
room_at w at = sum (map (λ (g : ℕ). get_or w.grouped.now.sizes g 0) (unset_of w.grouped.now w.order.now at))

-- where a walk began; a state that it meets at a place; a table that is right of it, beside what is marked
abbrev pub CourseOf : Walk → Type 0
CourseOf w = Course w.order.now w.grouped.now.groups w.grouped.now.sizes w.grouped.now.columns w.grouped.now.rooms

abbrev pub UnderwayOf : (w : Walk) → CourseOf w → ℕ → Unmet → Type 0
UnderwayOf w c at unmet = Underway c w.grouped.now.equations at unmet.needs unmet.rooms

abbrev pub RightOf : (w : Walk) → CourseOf w → Met → Counted → Type 0
RightOf w c met told = Right c w.grouped.now.equations w.allowed.now w.first met.tags met.keys met.results told.reached told.mined told.unfilled

-- a table that was right of a walk is so after it
abbrev pub StaysRight : Walk → ℕ → Unmet → Met → Counted → Met → Counted → Type 0
StaysRight w at unmet before told_before after told_after = (c : CourseOf w) → UnderwayOf w c at unmet → RightOf w c before told_before → RightOf w c after told_after

-- what a walk from a place on tells, when so many mines are set
abbrev pub WalkedOf : Walk → ℕ → ℕ → Unmet → Bool → Counted → Counted → Type 0
WalkedOf w at count unmet found before after =
    Walked w.allowed.now w.grouped.now.sizes count (unset_of w.grouped.now w.order.now at) (tree_of w.grouped.now w.order.now at unmet) found
    before.reached before.mined before.unfilled after.reached after.mined after.unfilled
