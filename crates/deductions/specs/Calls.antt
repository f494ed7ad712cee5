-- What a call on a position means to its caller, in Rattle and in C (SPECIFICATION 1.3, 4.3 and 8). Each
-- cell that it lists is so in every layout that fits the position, it marks just these cells, and a refusal keeps every lent byte; enumeration, where some layout
-- fits, lists each closed cell beside an open one that is the same in all. Throughout, p, s and m are the position and the two list slices as they were lent,
-- p', s' and m' are these after the call, `number` is 0 or the refusal's number, and `safe` and `mines` are the counts of the two lists. Assumes nothing.
use Rattle.std.specs.Prelude.{Err, ◌≡◌, ◌≢◌, Bool, true, false, List, ℕ, ◌≤◌, ◌<◌, length, get_or, take}
use Rattle.lists.specs.Lists.{has, nodup}
use Rattle.grid.specs.Cells.{shows}
use Rattle.grid.specs.Window.{neighbours}
use Rattle.refusals.specs.declared.Refusal.{Refusal}
use Rattle.refusals.specs.Refusals.{Accepted, refusal_number}
use Rattle.refusals.specs.Tests.{deduction_tested}
use Rattle.fitting.specs.Layouts.{Fits, Forced}

-- the counted entries of the two lists, of a position whose cells have these neighbours
pub record ListsTrue (near : ℕ → List ℕ) (p : List ℕ) (safe mines : ℕ) (s' m' : List ℕ) : Type 0 where
  -- the slice has as many entries as are counted
  pub safe_within : safe ≤ length s'
  -- a cell listed as safe was closed
  pub safe_closed : (i : ℕ) → i < safe → shows p (get_or s' i 0) ≡ 10
  -- it is free of mines in every layout that fits the position
  pub safe_free : (i : ℕ) → i < safe → Forced near p (get_or s' i 0) false
  -- and stands in the list once
  pub safe_once : nodup (take safe s') ≡ true
  -- the other slice too has as many entries as are counted
  pub mines_within : mines ≤ length m'
  -- a cell listed as a mine was closed
  pub mines_closed : (i : ℕ) → i < mines → shows p (get_or m' i 0) ≡ 10
  -- it is a mine in every layout that fits the position
  pub mines_mined : (i : ℕ) → i < mines → Forced near p (get_or m' i 0) true
  -- and stands in the list once
  pub mines_once : nodup (take mines m') ≡ true

-- what an accepted call writes: the lists' marks, and the counted entries
pub record OnlyMarked (p s m : List ℕ) (safe mines : ℕ) (p' s' m' : List ℕ) : Type 0 where
  -- each listed mine is marked 11, a known mine
  pub at_mines : (i : ℕ) → i < mines → shows p' (get_or m' i 0) ≡ 11
  -- each listed safe cell is marked 12, known safe, but for one that stands in both lists, whose mark is 11
  pub at_safe : (i : ℕ) → i < safe → has (take mines m') (get_or s' i 0) ≡ false → shows p' (get_or s' i 0) ≡ 12
  -- any other cell shows what it showed
  pub elsewhere : (c : ℕ) → has (take safe s') c ≡ false → has (take mines m') c ≡ false → shows p' c ≡ shows p c
  -- the position has as many cells as before
  pub position_length : length p' ≡ length p
  -- list entries beyond the counts keep their values
  pub safe_kept : (i : ℕ) → safe ≤ i → get_or s' i 0 ≡ get_or s i 0
  pub safe_length : length s' ≡ length s
  pub mines_kept : (i : ℕ) → mines ≤ i → get_or m' i 0 ≡ get_or m i 0
  pub mines_length : length m' ≡ length m

-- what a refused call writes: all lent memory keeps its bytes
pub record AllKept (p s m p' s' m' : List ℕ) : Type 0 where
  pub position_kept : p' ≡ p
  pub safe_kept : s' ≡ s
  pub mines_kept : m' ≡ m

-- all that holds of a call of any of the three rules, on a board of so many rows and columns
pub record SoundCall (edgeless : Bool) (rows columns : ℕ) (p s m : List ℕ) (number safe mines : ℕ) (p' s' m' : List ℕ) : Type 0 where
  -- each deduction of an accepted call holds in every layout that fits
  pub lists_true : number ≡ 0 → ListsTrue (neighbours edgeless rows columns) p safe mines s' m'
  -- it marks the listed cells and writes nothing else
  pub only_marked : number ≡ 0 → OnlyMarked p s m safe mines p' s' m'
  -- where some layout fits no cell stands in both lists, so that each listed safe cell shows 12
  pub at_safe : number ≡ 0 → (layout : List Bool) → Fits (neighbours edgeless rows columns) p layout → (i : ℕ) → i < safe → shows p' (get_or s' i 0) ≡ 12
  -- a refused call leaves every buffer untouched
  pub all_kept : number ≢ 0 → AllKept p s m p' s' m'
  -- what the tests refuse is refused, with their number
  pub refuses : (x : Refusal) → deduction_tested rows columns p (length s) (length m) ≡ Err x → number ≡ refusal_number x
  -- where the tests pass and some layout fits, the call is accepted: no rule finds such a position contradicted
  pub accepts : deduction_tested rows columns p (length s) (length m) ≡ Accepted → (layout : List Bool) → Fits (neighbours edgeless rows columns) p layout → number ≡ 0

-- the cell c is one of the first n entries of a list
abbrev pub AmongFirst : ℕ → List ℕ → ℕ → Type 0
AmongFirst n l c = (i : ℕ) × (i < n) × (get_or l i 0 ≡ c)

-- what holds of enumeration besides, where the tests pass and some layout fits: it finds each frontier cell that is the same in all of them. A frontier cell
-- is a closed cell c that an open one, d, touches
pub record CompleteCall (near : ℕ → List ℕ) (p : List ℕ) (number safe mines : ℕ) (s' m' : List ℕ) : Type 0 where
  -- the call is accepted
  pub is_accepted : number ≡ 0
  -- a frontier cell that is free of mines in every layout that fits is listed as safe
  pub safe_found : (c d : ℕ) → shows p c ≡ 10 → shows p d ≤ 8 → has (near d) c ≡ true → Forced near p c false → AmongFirst safe s' c
  -- and one that is a mine in every layout that fits is listed as a mine
  pub mines_found : (c d : ℕ) → shows p c ≡ 10 → shows p d ≤ 8 → has (near d) c ≡ true → Forced near p c true → AmongFirst mines m' c
