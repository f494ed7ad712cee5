-- Cited by no public contract. What the functions that ask what solutions show are told and tell. Two arrays of bytes are filled, by group: 1 where some
-- solution has a mine in it, and 1 where some solution leaves a cell of it free. Assumes nothing.
use Rattle.std.specs.Prelude.{◌≡◌, Bool, true, false, not, cond, ◌&&◌, ℕ, ◌≤◌, ◌<◌, ltb, length, get_or}
use mathlib.Core.List.{List, map, Memᴰ}
use Rattle.lists.specs.Lists.{empty, range, has, bit, pad}
use Rattle.blocks.specs.Blocks.{Block}
use Rattle.groups.specs.Groups.{firsts}
use Rattle.groups.specs.Grouping.{Combinable, grouped}
use Rattle.groups.specs.declared.Grouped.{Grouped}
use Rattle.search.specs.Searching.{StateOf, unset_of, Kept}
use Rattle.search.specs.declared.Unmet.{Unmet}
use Rattle.settling.specs.Settling.{Settles}
use Rattle.enumeration.specs.Enumeration.{never_mined, always_mined}
use Rattle.enumeration.specs.declared.asking.Shown.{Shown}

-- ---- what one solution shows, its values by group

-- a mine in a group
abbrev pub mine_in : List ℕ → ℕ → Bool
mine_in values g = ltb 0 (get_or values g 0)

-- a free cell in a group
abbrev pub free_in : List ℕ → List ℕ → ℕ → Bool
free_in sizes values g = ltb (get_or values g 0) (get_or sizes g 0)

-- the groups that pass a test are marked, and those that were before
pub record Noted (groups : ℕ) (f : ℕ → Bool) (before after : List ℕ) : Type 0 where
  pub whole : length after ≡ 1024
  pub at : (g : ℕ) → get_or after g 0 ≡ cond (ltb g groups && f g) 1 (get_or before g 0)

-- ---- a search for one solution

-- where there is no row nothing is marked, else what values show: those of one of the rows for the groups still unset, and the ones that were there for the others
pub record Answered (grouped : Grouped) (at : ℕ) (order settled : List ℕ) (rows : List (List ℕ)) (before after : Shown) : Type 0 where
  pub none : empty rows ≡ true → after ≡ before
  pub one : empty rows ≡ false
      → (values : List ℕ) × Kept (unset_of grouped order at) settled values × Memᴰ (map (λ (g : ℕ). get_or values g 0) (unset_of grouped order at)) rows
      × Noted grouped.groups (mine_in values) before.mined after.mined × Noted grouped.groups (free_in grouped.sizes values) before.unfilled after.unfilled

-- ---- what the solutions of a block show

-- the struct is what combine answers for a block without a negative remainder, with some groups settled at their values
pub record OverGroups (b : Block) (r : Grouped) (settled values : List ℕ) (unmet : Unmet) : Type 0 where
  pub combinable : Combinable b
  pub positive : (grouped b).negative ≡ false
  pub is : r ≡ grouped b
  pub state : StateOf r unmet
  pub settles : Settles r.sizes r.columns (grouped b).needs (grouped b).rooms settled values unmet.needs unmet.rooms

-- of the first groups, only some that pass a test are marked
pub record Only (groups : ℕ) (t : ℕ → Bool) (marks : List ℕ) : Type 0 where
  pub whole : length marks ≡ 1024
  pub bits : (g : ℕ) → get_or marks g 0 ≤ 1
  pub right : (g : ℕ) → get_or marks g 0 ≡ 1 → (g < groups) × (t g ≡ true)

-- only what some solution shows is marked
pub record ShownOnly (b : Block) (marks : Shown) : Type 0 where
  pub mines : Only (length (firsts b)) (λ (g : ℕ). not (never_mined b g)) marks.mined
  pub frees : Only (length (firsts b)) (λ (g : ℕ). not (always_mined b g)) marks.unfilled

-- of one group all that some solution shows is marked
pub record Told (b : Block) (marks : Shown) (g : ℕ) : Type 0 where
  pub mine : never_mined b g ≡ false → get_or marks.mined g 0 ≡ 1
  pub free : always_mined b g ≡ false → get_or marks.unfilled g 0 ≡ 1

-- the same of each settled group
pub record SettledTold (b : Block) (settled : List ℕ) (marks : Shown) : Type 0 where
  pub told : (g : ℕ) → has settled g ≡ true → Told b marks g

-- no mark is taken away
pub record Stay (before after : List ℕ) : Type 0 where
  pub at : (g : ℕ) → get_or before g 0 ≡ 1 → get_or after g 0 ≡ 1

-- and no mark of a mine or of a free cell
pub record Stays (before after : Shown) : Type 0 where
  pub mines : Stay before.mined after.mined
  pub frees : Stay before.unfilled after.unfilled

-- what its solutions show of each group: a mine in it, a free cell in it
unfoldable pub shown : Block → Shown
shown b = record {
  mined = pad 1024 0 (map (λ (g : ℕ). bit (not (never_mined b g))) (range 0 (length (firsts b))));
  unfilled = pad 1024 0 (map (λ (g : ℕ). bit (not (always_mined b g))) (range 0 (length (firsts b))));
}
