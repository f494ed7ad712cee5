-- How the code keeps rounds. A loop that stores a number at each place, from the first to the last, makes the list of these numbers (`Made`). A round given to the
-- open cells that have none makes of the rounds of some positions those of one position more (`given_next`). Rests on the first places of the crate lists. Assumes nothing.
use mathlib.Core.Path.{◌≡◌, refl, sym, ap, ◌∙◌}
use mathlib.Core.Logic.{inl, inr}
use mathlib.Core.Bool.{false, cond, ◌||◌, and-false, or-false, or_assoc}
use mathlib.Core.List.{List, [], ◌∷◌, ◌++◌, map}
use Prim.Native.Nat.{ℕ, zero, suc, ◌+◌, ◌*◌, ◌≤◌, ◌<◌}
use native.Mathlib.Omega.{arith}
use lib.Dec.{eqb}
use lib.ListN.{length, get_or, replicate, length-map}
use borrow.Author.Tests.{ne_eqb}
use Rattle.lists.specs.Lists.{range, any, first_place}
use Rattle.lists.proofs.Tests.{Decided, decided}
use Rattle.lists.proofs.FirstPlaces.{first_place_within, first_place_front, first_place_behind}
use Rattle.lists.proofs.Joined.{read_all, map_range}
use Rattle.lists.proofs.Rearranged.{length_range}
use Rattle.lists.proofs.ReadBack.{range_made}
use Rattle.grid.specs.Cells.{shows}
use Rattle.grid.specs.Window.{Board}
use Rattle.rounds.specs.Rounds.{open_at, round_of, rounds_of}
use Rattle.rounds.specs.GivenRounds.{round_after, round_given}

-- ---- a number stored at each place

-- f c is stored at each place before i, and the list is as it was from there on
pub record Made (f : ℕ → ℕ) (l₀ l : List ℕ) (i : ℕ) : Type 0 where
  pub long : length l ≡ length l₀
  pub done : (c : ℕ) → c < i → c < length l₀ → get_or l c 0 ≡ f c
  pub rest : (c : ℕ) → i ≤ c → get_or l c 0 ≡ get_or l₀ c 0

pub made_last : (f : ℕ → ℕ) {l₀ l : List ℕ} {i : ℕ} → Made f l₀ l i → length l₀ ≤ i → l ≡ map f (range 0 (length l₀))
made_last f {l₀} {l} {i} m past =
    sym (read_all l 0)
    ∙ ap (λ (k : ℕ). map (λ (c : ℕ). get_or l c 0) (range 0 k)) m.long
    ∙ map_range (λ (c : ℕ). get_or l c 0) f 0 (length l₀) (λ c _ h. m.done c (omega arith) (omega arith))

-- ---- the rounds of cells, place by place

pub rounds_length : (ps : List (List ℕ)) (n : ℕ) → length (rounds_of ps n) ≡ n
unfolding rounds_of
rounds_length ps n = length-map (range 0 n) (round_of ps) ∙ length_range 0 n

-- on a board of rows and columns it is as long as the board
pub rounds_on_board : {rows columns : ℕ} {b opened_in : List ℕ} → Board b rows columns → (ps : List (List ℕ)) → opened_in ≡ rounds_of ps (length b) → length opened_in ≡ rows * columns
rounds_on_board {b = b} board ps is = ap length is ∙ rounds_length ps (length b) ∙ board.whole

pub rounds_at : (ps : List (List ℕ)) (n c d : ℕ) → c < n → get_or (rounds_of ps n) c d ≡ round_of ps c
unfolding rounds_of
rounds_at ps n c d h = let e : 0 + c ≡ c = omega arith in rw e at (range_made (round_of ps) 0 n c d h)

-- what a cell has after a round is given
abbrev pub given : ℕ → List ℕ → List ℕ → ℕ → ℕ
given round p opened_in c = round_after round (shows p c) (get_or opened_in c 0)

-- before any position no cell has a round
pub rounds_none : (n : ℕ) → rounds_of [] n ≡ replicate n 65535
unfolding rounds_of
rounds_none n = go 0 n
  where
    go : (a k : ℕ) → map (round_of []) (range a k) ≡ replicate k 65535
    go a zero = refl
    go a (suc k) = ap (λ (l : List ℕ). 65535 ∷ l) (go (suc a) k)

-- the code's loop: each cell is given a round
pub all_given : (round : ℕ) (p l₀ : List ℕ) {l : List ℕ} {c : ℕ} → Made (given round p l₀) l₀ l c → length l₀ ≤ c → l ≡ round_given round p l₀
unfolding round_given
all_given round p l₀ m past = made_last (given round p l₀) m past

-- ---- one position more

-- the round so far, and this one for a cell that is open now and was not before
round_next : (ps : List (List ℕ)) (q : List ℕ) (c : ℕ)
    → round_of (ps ++ (q ∷ [])) c ≡ cond (any (open_at c) ps) (round_of ps c) (cond (open_at c q) (length ps) 65535)
round_next ps q c = go (decided (any (open_at c) ps)) (decided (open_at c q))
  where
    any_next : (l : List (List ℕ)) → any (open_at c) (l ++ (q ∷ [])) ≡ (any (open_at c) l || open_at c q)
    any_next [] = or-false (open_at c q)
    any_next (p ∷ l) = rw (any_next l) (sym (or_assoc (open_at c p) (any (open_at c) l) (open_at c q)))

    go : Decided (any (open_at c) ps) → Decided (open_at c q)
        → round_of (ps ++ (q ∷ [])) c ≡ cond (any (open_at c) ps) (round_of ps c) (cond (open_at c q) (length ps) 65535)
    go (inl e) f = rw (any_next ps, e) (first_place_front (open_at c) ps (q ∷ []) e)
    go (inr e) (inl f) = rw (any_next ps, e, f) (first_place_behind (open_at c) ps (q ∷ []) e ∙ rw f (omega arith))
    go (inr e) (inr f) = rw (any_next ps, e, f)

-- the number of the positions so far is given, and that makes the rounds of one position more
pub given_next : (ps : List (List ℕ)) (q : List ℕ) (n round : ℕ) → length ps < 65535 → round ≡ length ps
    → round_given round q (rounds_of ps n) ≡ rounds_of (ps ++ (q ∷ [])) n
unfolding round_given rounds_of
given_next ps q n round few is =
    ap (λ (k : ℕ). map (given round q (rounds_of ps n)) (range 0 k)) (rounds_length ps n)
    ∙ map_range (given round q (rounds_of ps n)) (round_of (ps ++ (q ∷ []))) 0 n (λ c _ h. at_cell c (omega arith))
  where
    one : (c : ℕ) → Decided (any (open_at c) ps) → Decided (open_at c q)
        → round_after round (shows q c) (round_of ps c) ≡ cond (any (open_at c) ps) (round_of ps c) (cond (open_at c q) (length ps) 65535)
    one c (inl e) f =
        let small : eqb (first_place (open_at c) ps) 65535 ≡ false = ne_eqb (first_place (open_at c) ps) 65535 (omega (arith, first_place_within (open_at c) ps)) in
        rw (e, small, and-false (open_at c q))
    one c (inr e) (inl f) = rw (e, f) is
    one c (inr e) (inr f) = rw (e, f)

    at_cell : (c : ℕ) → c < n → given round q (rounds_of ps n) c ≡ round_of (ps ++ (q ∷ [])) c
    at_cell c h =
        ap (λ (kept : ℕ). round_after round (shows q c) kept) (rounds_at ps n c 0 h)
        ∙ one c (decided (any (open_at c) ps)) (decided (open_at c q))
        ∙ sym (round_next ps q c)
