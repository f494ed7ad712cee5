-- Cited by no public contract. The table of states that a walk over a block's groups has met, so that it goes on from equal ones once. A state is the place in
-- the order of the groups, the mines set so far, and what the equations need. Of the needs only those of equations that are begun and not finished tell states
-- of one place apart: they are the digits of the state's key. A table may forget, and holds nothing wrong. Assumes nothing.
use Rattle.std.specs.Prelude.{◌≡◌, Bool, true, ◌&&◌, List, [], ◌∷◌, ℕ, ◌+◌, ◌*◌, ◌≤◌, ◌<◌, ltb, eqb, length, get_or}
use Rattle.lists.specs.Lists.{range, keep, any}
use Rattle.blocks.specs.BlockSets.{slot_cells}
use Rattle.search.specs.Solutions.{sum}
use Rattle.search.specs.Trees.{lowered}
use Rattle.search.specs.Searching.{State, unset, tree_at}
use Rattle.counting.specs.Counting.{counts_to, some_counts, gives, holds_mine, leaves_free}

-- ---- the key of a state

-- the equations that are begun and not finished: some of the cells that they had room for at first are set, and not all
abbrev pub open_equations : ℕ → List ℕ → List ℕ → List ℕ
open_equations equations rooms start_rooms = keep (λ e. ltb 0 (get_or rooms e 0) && ltb (get_or rooms e 0) (get_or start_rooms e 0)) (range 0 equations)

-- the needs of some equations as the digits of a number, behind those that it has
abbrev pub digits : List ℕ → List ℕ → ℕ → ℕ
digits needs [] key = key
digits needs (e ∷ es) key = digits needs es (key * 9 + get_or needs e 0)

unfoldable pub key_of : ℕ → List ℕ → List ℕ → List ℕ → ℕ
key_of equations needs rooms start_rooms = digits needs (open_equations equations rooms start_rooms) 0

-- the walk, the place and the count as one number: the walk's own tags begin at `first`
abbrev pub tag_of : ℕ → ℕ → ℕ → ℕ
tag_of first at count = first + at * 1025 + count

-- ---- the states of a walk

-- where a walk began, and how much room the equations have at each place of the order
pub record Course (order : List ℕ) (groups : ℕ) (sizes columns start_rooms : List ℕ) : Type 0 where
  pub begun : ℕ
  pub start_needs : List ℕ
  pub rooms_at : ℕ → List ℕ
  pub next : (at : ℕ) → begun ≤ at → at < groups
      → rooms_at (at + 1) ≡ lowered (get_or sizes (get_or order at 0) 0) (slot_cells columns (get_or order at 0)) (rooms_at at)

-- a state that the walk meets at a place: an equation that is not begun needs what it did at first, and one that is finished nothing
pub record Underway {order : List ℕ} {groups : ℕ} {sizes columns start_rooms : List ℕ} (c : Course order groups sizes columns start_rooms)
    (equations at : ℕ) (needs rooms : List ℕ) : Type 0 where
  pub past : c.begun ≤ at
  pub state : State equations needs rooms
  pub room : rooms ≡ c.rooms_at at
  pub less : (e : ℕ) → get_or rooms e 0 ≤ get_or start_rooms e 0
  pub unbegun : (e : ℕ) → get_or rooms e 0 ≡ get_or start_rooms e 0 → get_or needs e 0 ≡ get_or c.start_needs e 0
  pub finished : (e : ℕ) → get_or rooms e 0 ≡ 0 → 0 < get_or start_rooms e 0 → get_or needs e 0 ≡ 0

-- ---- what the table holds

-- the places that pass a test are marked
abbrev pub AllMarked : (ℕ → Bool) → List ℕ → Type 0
AllMarked test marks = (x : ℕ) → test x ≡ true → get_or marks x 0 ≡ 1

-- what a walk would find among these rows is known, and what it would mark is marked
pub record Known (allowed sizes : List ℕ) (count : ℕ) (gs : List ℕ) (rows : List (List ℕ)) (found : ℕ) (reached mined unfilled : List ℕ) : Type 0 where
  pub finds : eqb found 1 ≡ any (counts_to allowed count) rows
  pub reaches : AllMarked (λ x. some_counts allowed count (λ row. eqb (count + sum row) x) rows) reached
  pub mines : AllMarked (λ x. some_counts allowed count (gives holds_mine gs x) rows) mined
  pub frees : AllMarked (λ x. some_counts allowed count (gives (leaves_free sizes) gs x) rows) unfilled

-- every entry with a tag of this walk is right of each state of the walk that has its tag and its key; no tag is past the walk's own
pub record Right {order : List ℕ} {groups : ℕ} {sizes columns start_rooms : List ℕ} (c : Course order groups sizes columns start_rooms)
    (equations : ℕ) (allowed : List ℕ) (first : ℕ) (tags keys results reached mined unfilled : List ℕ) : Type 0 where
  pub whole : (length tags ≡ 8192) × (length keys ≡ 8192) × (length results ≡ 8192)
  pub below : (i : ℕ) → get_or tags i 0 < first + 1050625
  pub entry : (i at count : ℕ) (needs : List ℕ) → at < groups → count ≤ 1024 → get_or tags i 0 ≡ tag_of first at count → Underway c equations at needs (c.rooms_at at)
      → key_of equations needs (c.rooms_at at) start_rooms ≡ get_or keys i 0
      → Known allowed sizes count (unset order groups at) (tree_at order groups sizes columns at needs (c.rooms_at at)) (get_or results i 0) reached mined unfilled
