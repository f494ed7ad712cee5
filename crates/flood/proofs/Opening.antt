-- Opening cells onto the stack, as the array holds it. A cell is opened as it is put on the stack, so that cells on the stack and closed cells together
-- do not become more (`held_counts`): there is room for each closed cell (`open_room`), and a loop that takes a cell from the stack at each turn ends.
-- Assumes nothing.
use mathlib.Core.Path.{◌≡◌, sym, ◌∙◌}
use mathlib.Core.Logic.{inl, inr, ◌≢◌}
use mathlib.Core.List.{List, [], ◌∷◌}
use Prim.Native.Nat.{ℕ, ◌+◌, ◌-◌, ◌≤◌, ◌<◌}
use native.Mathlib.Omega.{arith}
use native.Mathlib.Numerals.{add-one}
use lib.Dec.{ltb, eqb}
use lib.ListN.{length, get_or, take, drop, set, length-append, length-set}
use lib.Seq.{take-suc-set, take-take, length-take-le}
use borrow.Author.Tests.{eqb-true, eq-eqb, ne_eqb, lt-ltb}
use Rattle.lists.proofs.Tests.{Decided, decided}
use Rattle.lists.proofs.All.{all_push, all_take}
use Rattle.lists.proofs.Arrays.{drop_more, drop_none}
use Rattle.lists.proofs.Counted.{rest_below}
use Rattle.lists.proofs.Elements.{get_d_any}
use Rattle.grid.specs.Cells.{cell_of, shows}
use Rattle.fitting.proofs.Layouts.{on_board}
use Rattle.fitting.proofs.Steps.{closed, closed_less}
use Rattle.flood.specs.Stack.{Flooding, held, open_one, open_each, Room}

-- ---- one cell

-- c is a cell of the board, read as the code reads it
module _ (b p array : List ℕ) (n c : ℕ) (r : Room b p array n) (l : c < length b) where
  read : shows p c ≡ cell_of p c
  read = get_d_any p c 255 0 (omega (arith, r.whole))

  -- one that isn't closed stays as it is
  pub open_kept : cell_of p c ≢ 10 → held p array n ≡ open_one b (held p array n) c
  unfolding open_one
  open_kept e = rw (ne_eqb (shows p c) 10 (λ x. e (sym read ∙ x)))

  -- a closed one goes on the stack, which has room for it
  module _ (shut : cell_of p c ≡ 10) where
    fewer : closed (set p c (cell_of b c)) < closed p
    fewer = closed_less p c (cell_of b c) (read ∙ shut) (omega (arith, r.whole)) (r.numbers c l)

    pub open_room : n < 1024
    open_room = omega (arith, fewer, r.room)

    inside : n < length array
    inside = omega (arith, open_room, r.long)

    pub open_pushed : held (set p c (cell_of b c)) (set array n c) (n + 1) ≡ open_one b (held p array n) c
    unfolding open_one
    open_pushed = rw (eq-eqb (shows p c) 10 (read ∙ shut), add-one, take-suc-set array n c inside)

    pub room_pushed : Room b (set p c (cell_of b c)) (set array n c) (n + 1)
    room_pushed = record {
      numbers = r.numbers;
      whole = length-set p c (cell_of b c) ∙ r.whole;
      long = length-set array n c ∙ r.long;
      room = omega (arith, fewer, r.room);
      on_board = rw (add-one, take-suc-set array n c inside) (all_push (λ d. ltb d (length b)) (take n array) c r.on_board (lt-ltb c (length b) l));
    }

-- c is the last cell of the stack, and is taken from it
module _ (b p array : List ℕ) (n c : ℕ) (r : Room b p array n) (some : 0 < n) (at : c ≡ get_or array (n - 1) 0) where
  pub taken_on : c < length b
  taken_on = rest_below array n (n - 1) c (omega (arith, r.room, r.long)) (omega arith) at (length b) r.on_board

  pub room_taken : Room b p array (n - 1)
  room_taken = record {
    numbers = r.numbers;
    whole = r.whole;
    long = r.long;
    room = omega (arith, r.room);
    on_board = rw (take-take (n - 1) n array (omega arith)) at (all_take (λ d. ltb d (length b)) (n - 1) (take n array) r.on_board);
  }

-- ---- the cells of a list, opened one after another: those from k on are left

module _ (b : List ℕ) (s : Flooding) (list : List ℕ) (k : ℕ) where
  pub each_next : k < length list → (t : Flooding) → t ≡ open_one b s (get_or list k 0)
      → open_each b t (drop (k + 1) list) ≡ open_each b s (drop k list)
  unfolding open_each
  each_next before t e = rw (drop_more list k 0 before, e)

  pub each_end : length list ≤ k → open_each b s (drop k list) ≡ s
  unfolding open_each
  each_end past = rw (drop_none list k past)

-- ---- cells on the stack and closed cells

-- how many they are together
abbrev stacked_or_closed : Flooding → ℕ
stacked_or_closed s = length s.stack + closed s.position

module _ (b : List ℕ) (numbers : (c : ℕ) → c < length b → cell_of b c ≢ 10) where
  -- not more when a cell is opened
  one_counts : (s : Flooding) (c : ℕ) → length s.position ≡ length b
      → (length (open_one b s c).position ≡ length b) × (stacked_or_closed (open_one b s c) ≤ stacked_or_closed s)
  unfolding open_one
  one_counts s c h = go (decided (eqb (shows s.position c) 10))
    where
      go : Decided (eqb (shows s.position c) 10) → (length (open_one b s c).position ≡ length b) × (stacked_or_closed (open_one b s c) ≤ stacked_or_closed s)
      go (inr e) = rw e (h, omega arith)
      go (inl e) =
          let shut : shows s.position c ≡ 10 = eqb-true (shows s.position c) 10 e in
          let l : c < length s.position = on_board s.position c (omega arith) in
          let fewer = closed_less s.position c (cell_of b c) shut l (numbers c (omega arith)) in
          rw e (length-set s.position c (cell_of b c) ∙ h, omega (arith, fewer, length-append s.stack (c ∷ [])))

  -- nor when the cells of a list are
  each_counts : (s : Flooding) (cs : List ℕ) → length s.position ≡ length b → stacked_or_closed (open_each b s cs) ≤ stacked_or_closed s
  unfolding open_each
  each_counts s [] h = omega arith
  each_counts s (c ∷ cs) h =
      let one = one_counts s c h in
      omega (arith, each_counts (open_one b s c) cs one.0, one.1)

-- so in the array
pub held_counts : (b p array : List ℕ) (n : ℕ) (q after : List ℕ) (m : ℕ) (cs : List ℕ) → Room b p array n → Room b q after m
    → held q after m ≡ open_each b (held p array n) cs → m + closed q ≤ n + closed p
held_counts b p array n q after m cs r t e =
    omega (
      arith,
      rw (← e) at (each_counts b r.numbers (held p array n) cs r.whole),
      length-take-le n array (omega (arith, r.room, r.long)),
      length-take-le m after (omega (arith, t.room, t.long)),
    )
