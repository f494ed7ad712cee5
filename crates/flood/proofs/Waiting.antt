-- The flood with a stack of opened cells: still to be opened are the neighbours of the 0s on the stack (`waiting`). That goes on to be so when the cells
-- of a list are opened onto the stack (`so_far_held`), and when the last cell of the stack is taken, and the list of its neighbours is to be opened
-- if it is a 0 (`so_far_zero`, `so_far_number`). It begins with the first list (`so_far_first`) and ends with an empty stack (`so_far_last`). Rests on
-- SoFar. Assumes nothing.
use mathlib.Core.Path.{◌≡◌, refl, ap, ◌∙◌}
use mathlib.Core.Logic.{inl, inr, ◌≢◌}
use mathlib.Core.List.{List, [], ◌∷◌, ◌++◌, map, append-nil}
use Prim.Native.Nat.{ℕ, suc, ◌-◌, ◌≤◌, ◌<◌}
use native.Mathlib.Omega.{arith}
use lib.Dec.{eqb}
use lib.ListN.{length, get_or, take, set}
use lib.Seq.{take-suc}
use borrow.Author.Tests.{eqb-true, eqb-false, eq-eqb, ne_eqb}
use Rattle.lists.specs.Lists.{joined}
use Rattle.lists.proofs.Tests.{Decided, decided}
use Rattle.lists.proofs.Joined.{joined_push}
use Rattle.grid.specs.Cells.{cell_of, shows}
use Rattle.fitting.specs.Boards.{Accepted}
use Rattle.flood.specs.Stack.{Flooding, held, open_one, open_each}
use Rattle.flood.proofs.Swapped.{has_swapped, has_moved}
use Rattle.flood.proofs.SoFar.{SoFar, brings, so_far_start, so_far_alike, so_far_pass, so_far_open}

-- the neighbours of the 0s on the stack
unfoldable pub waiting : (ℕ → List ℕ) → List ℕ → List ℕ → List ℕ
waiting near b stack = joined (map (brings near b) stack)

waiting_none : (near : ℕ → List ℕ) (b : List ℕ) → waiting near b [] ≡ []
unfolding waiting
waiting_none near b = refl

waiting_push : (near : ℕ → List ℕ) (b stack : List ℕ) (c : ℕ) → waiting near b (stack ++ (c ∷ [])) ≡ waiting near b stack ++ brings near b c
unfolding waiting
waiting_push near b stack c = joined_push (brings near b) stack c

-- ---- cells are opened onto the stack

module _ (near : ℕ → List ℕ) (b p cs : List ℕ) (ok : Accepted near b) where
  -- the next cell, if it is closed
  so_far_one : (s : Flooding) (d : ℕ) (ds : List ℕ) → SoFar near b p cs s.position (d ∷ (ds ++ waiting near b s.stack))
      → SoFar near b p cs (open_one b s d).position (ds ++ waiting near b (open_one b s d).stack)
  unfolding open_one
  so_far_one s d ds f = go (decided (eqb (shows s.position d) 10))
    where
      rest : List ℕ
      rest = waiting near b s.stack

      go : Decided (eqb (shows s.position d) 10) → SoFar near b p cs (open_one b s d).position (ds ++ waiting near b (open_one b s d).stack)
      go (inr e) = rw e (so_far_pass near b p cs s.position d (ds ++ rest) (eqb-false (shows s.position d) 10 e) f)
      go (inl e) =
          rw (e, waiting_push near b s.stack d)
          (so_far_alike near b p cs (set s.position d (cell_of b d)) (brings near b d ++ (ds ++ rest)) (ds ++ (rest ++ brings near b d))
          (λ c _. has_moved (brings near b d) ds rest c)
          (so_far_open near b p cs ok s.position d (ds ++ rest) (eqb-true (shows s.position d) 10 e) f))

  -- each cell of a list in turn
  so_far_each : (s : Flooding) (ds : List ℕ) → SoFar near b p cs s.position (ds ++ waiting near b s.stack)
      → SoFar near b p cs (open_each b s ds).position (waiting near b (open_each b s ds).stack)
  unfolding open_each
  so_far_each s [] f = f
  so_far_each s (d ∷ ds) f = so_far_each (open_one b s d) ds (so_far_one s d ds f)

  -- so in the array
  pub so_far_held : (q array : List ℕ) (n : ℕ) (ds after left : List ℕ) (m : ℕ) → held after left m ≡ open_each b (held q array n) ds
      → SoFar near b p cs q (ds ++ waiting near b (take n array)) → SoFar near b p cs after (waiting near b (take m left))
  so_far_held q array n ds after left m e f = rw (← e) at (so_far_each (held q array n) ds f)

  -- the first list, with nothing on the stack
  pub so_far_first : (after left : List ℕ) (m : ℕ) → length p ≡ length b → held after left m ≡ open_each b (held p [] 0) cs
      → SoFar near b p cs after (waiting near b (take m left))
  so_far_first after left m whole e = so_far_held p [] 0 cs after left m e (rw (waiting_none near b, append-nil) (so_far_start near b p cs whole))

-- ---- cells are taken from the stack

module _ (near : ℕ → List ℕ) (b p cs : List ℕ) where
  -- c is the last, and is taken
  module _ (q array : List ℕ) (n c : ℕ) (fits : n ≤ length array) (some : 0 < n) (at : c ≡ get_or array (n - 1) 0)
      (f : SoFar near b p cs q (waiting near b (take n array))) where
    abbrev rest : List ℕ
    rest = waiting near b (take (n - 1) array)

    split : take n array ≡ take (n - 1) array ++ (c ∷ [])
    split = let e : n ≡ suc (n - 1) = omega arith in ap (λ (k : ℕ). take k array) e ∙ rw at (take-suc array (n - 1) 0 (omega arith))

    taken : SoFar near b p cs q (rest ++ brings near b c)
    taken = rw (split, waiting_push near b (take (n - 1) array) c) at f

    -- if it isn't a 0, nothing is to be opened for it
    pub so_far_number : cell_of b c ≢ 0 → SoFar near b p cs q (waiting near b (take (n - 1) array))
    so_far_number z = rw (ne_eqb (cell_of b c) 0 z, append-nil) at taken

    -- if it is, its neighbours are to be opened next
    pub so_far_zero : cell_of b c ≡ 0 → SoFar near b p cs q (near c ++ waiting near b (take (n - 1) array))
    so_far_zero z = so_far_alike near b p cs q (rest ++ near c) (near c ++ rest) (λ d _. has_swapped rest (near c) d) (rw (eq-eqb (cell_of b c) 0 z) at taken)

  -- none is left
  pub so_far_last : (q array : List ℕ) (n : ℕ) → n ≤ 0 → SoFar near b p cs q (waiting near b (take n array)) → SoFar near b p cs q []
  so_far_last q array n none f = let e : n ≡ 0 = omega arith in rw (e, waiting_none near b) at f
