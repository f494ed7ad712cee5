-- Cited by no public contract. What the functions that read the sources tell, and what those that build blocks of them are told: the lists that their scratch
-- arrays hold. Assumes nothing.
use Rattle.std.specs.Prelude.{◌≡◌, Bool, true, cond, ◌&&◌, ◌||◌, List, [], ℕ, ◌+◌, ◌*◌, ◌≤◌, ◌<◌, leb, ltb, length, take}
use Rattle.lists.specs.Lists.{range, keep, all, meets}
use Rattle.grid.specs.declared.window.Size.{Size}
use Rattle.grid.specs.Window.{neighbours_on}
use Rattle.blocks.specs.BlockSets.{slot_cells}
use Rattle.sources.specs.declared.SourceList.{SourceList}
use Rattle.sources.specs.declared.Sources.{Sources}
use Rattle.sources.specs.Sources.{closed_beside, is_source}

-- ---- the sources read

-- the sources below n are read: `list` holds them, len of them, and the eight slots at each hold its closed neighbours; other slots hold none
pub record Read (near : ℕ → List ℕ) (p : List ℕ) (n : ℕ) (slots list : List ℕ) (len : ℕ) : Type 0 where
  pub wide : length slots ≡ 8192
  pub long : length list ≡ 1024
  pub listed : take len list ≡ keep (is_source near p) (range 0 n)
  pub few : len ≤ n
  pub beside : (c : ℕ) → c < 1024 → slot_cells slots c ≡ cond (ltb c n && is_source near p c) (closed_beside near p c) []

-- the sources that a list has
abbrev pub sources_in : SourceList → List ℕ
sources_in l = take l.len l.cells

-- so in the struct that the code fills
abbrev pub SourcesRead : Size → List ℕ → ℕ → Sources → Type 0
SourcesRead size p n s = Read (neighbours_on size) p n s.beside s.list.cells s.list.len

-- ---- where their slots meet

-- the cells in the slots of c and of d meet
abbrev pub slots_meet : List ℕ → ℕ → ℕ → Bool
slots_meet slots c d = meets (slot_cells slots c) (slot_cells slots d)

-- two cells are at most two rows and two columns apart, as far as their numbers tell: without an edge these tell nothing
abbrev pub near_enough : Bool → ℕ → ℕ → ℕ → Bool
near_enough edgeless columns c d = edgeless || (leb d (c + (2 * columns + 2)) && leb c (d + (2 * columns + 2)))

-- slots that hold only cells of the board
pub record BoardSlots (slots : List ℕ) : Type 0 where
  pub wide : length slots ≡ 8192
  pub on_board : (c : ℕ) → all (λ d. ltb d 1024) (slot_cells slots c) ≡ true

-- and meet only where their places are near enough
pub record Slots (edgeless : Bool) (columns : ℕ) (slots : List ℕ) : Type 0 where
  pub few_columns : columns ≤ 32
  pub held : BoardSlots slots
  pub reach : (c d : ℕ) → slots_meet slots c d ≡ true → near_enough edgeless columns c d ≡ true

-- the first n of an array of 1024 are below 1024
pub record Cells (a : List ℕ) (n : ℕ) : Type 0 where
  pub long : length a ≡ 1024
  pub few : n ≤ 1024
  pub on_board : all (λ d. ltb d 1024) (take n a) ≡ true
