-- Marks, openings and the flood from a 0 are steps of a run, wherever the marked cells are mines and the opened ones free in every layout that fits and
-- passes the test. So a pass of a sound rule is a run: the board's own layout goes on to fit. A pass that finds a cell leaves fewer closed ones, since what a
-- sound rule finds was closed. Rests on Runs and Frontier. Assumes nothing.
use mathlib.Core.Path.{◌≡◌, refl, ◌∙◌}
use mathlib.Core.Logic.{◌⊎◌, inl, inr, ◌≢◌}
use mathlib.Core.Bool.{Bool, true, false, cond, ◌&&◌}
use mathlib.Core.List.{List, [], ◌∷◌, ◌++◌}
use Prim.Native.Nat.{ℕ, zero, suc, ◌+◌, ◌*◌, ◌≤◌, ◌<◌}
use native.Mathlib.Omega.{arith}
use lib.ListN.{length, set, replicate, length-replicate, get_or-replicate}
use lib.Seq.{get_or-set_same}
use lib.Dec.{eqb}
use borrow.Author.Tests.{eqb-true, eq-eqb, ne_eqb}
use Rattle.lists.specs.Lists.{bit, count, has, empty}
use Rattle.lists.proofs.Tests.{Decided, decided, clash, or_cases}
use Rattle.lists.proofs.Members.{has_head, has_tail, has_append}
use Rattle.lists.proofs.Counts.{count_set}
use Rattle.grid.specs.Cells.{cell_of, shows}
use Rattle.fitting.specs.Layouts.{mine_at, Fits, ForcedAmong}
use Rattle.fitting.specs.Boards.{own, Accepted}
use Rattle.fitting.specs.Solver.{first}
use Rattle.fitting.specs.Passes.{GradedCells, nothing, flood, open_cells, mark_mines, pass}
use Rattle.fitting.specs.Rules.{SoundAmong}
use Rattle.fitting.proofs.Layouts.{on_board, mine_on_board, fits_marked}
use Rattle.fitting.proofs.Frontier.{zero_forced}
use Rattle.fitting.proofs.Own.{own_safe, fit_length, fit_on, first_own, own_opened, before_opened, before_marked}
use Rattle.fitting.proofs.Runs.{Run, start, opens, mine, run_join, run_own, run_back}

-- the position in which the passes begin: the start is opened, with its flood
abbrev pub beginning : (ℕ → List ℕ) → List ℕ → ℕ → List ℕ
beginning near b s = open_cells near b (replicate (length b) 10) (s ∷ [])

-- ---- closed cells

-- how many cells of a position are closed
abbrev pub closed : List ℕ → ℕ
closed p = count (λ v. eqb v 10) p

-- a cell is opened or marked: one less, if it was closed
closed_set : (p : List ℕ) (c v : ℕ) → c < length p → v ≢ 10 → closed (set p c v) + bit (eqb (shows p c) 10) ≡ closed p
closed_set p c v l n = let e : eqb v 10 ≡ false = ne_eqb v 10 n in omega (arith, rw e at (count_set (λ w. eqb w 10) p c 255 v l))

-- a closed cell is opened or marked: fewer are closed
pub closed_less : (p : List ℕ) (c v : ℕ) → shows p c ≡ 10 → c < length p → v ≢ 10 → closed (set p c v) < closed p
closed_less p c v e l n = omega (arith, rw (eq-eqb (shows p c) 10 e) at (closed_set p c v l n))

module _ (near : ℕ → List ℕ) (also : List Bool → Bool) (b : List ℕ) (ok : Accepted near b) (own_passes : also (own b) ≡ true) where
  -- a run closes no cell
  run_closed : (p : List ℕ) → Fits near p (own b) → {q : List ℕ} → Run near also b p q → closed q ≤ closed p
  run_closed p fit start = omega arith
  run_closed p fit (opens {q = q} c r l h) =
      let f = run_own near also b ok own_passes fit r in
      let small : cell_of b c ≤ 8 = ok.small c l (own_safe b c (h (own b) f own_passes)) in
      omega (arith, run_closed p fit r, closed_set q c (cell_of b c) (omega (arith, fit_length near b q f)) (omega arith))
  run_closed p fit (mine {q = q} c r h) =
      let f = run_own near also b ok own_passes fit r in
      omega (arith, run_closed p fit r, closed_set q c 11 (omega (arith, mine_on_board (own b) c (h (own b) f own_passes), f.sized)) (omega arith))

  -- fewer are closed when a closed cell is written and a run follows
  written_less : (p : List ℕ) (c v : ℕ) → shows p c ≡ 10 → v ≢ 10 → Fits near (set p c v) (own b) → {q : List ℕ} → Run near also b (set p c v) q
      → closed q < closed p
  written_less p c v shut n fit r = omega (arith, run_closed (set p c v) fit r, closed_less p c v shut (on_board p c (omega arith)) n)

  -- each cell of a list is the same in every layout that fits and passes
  abbrev AllForced : List ℕ → List ℕ → Bool → Type 0
  AllForced p cs v = (c : ℕ) → has cs c ≡ true → ForcedAmong near also p c v

  -- ---- marks

  -- the first mine of a list is marked: the own layout goes on to fit, and the rest of the list to be mines
  module _ (p : List ℕ) (c : ℕ) (cs : List ℕ) (fit : Fits near p (own b)) (h : AllForced p (c ∷ cs) true) where
    head_marked : Fits near (set p c 11) (own b)
    head_marked = fits_marked near p (own b) fit c (h c (has_head c cs) (own b) fit own_passes)

    rest_mines : AllForced (set p c 11) cs true
    rest_mines d e m f = h d (has_tail c cs d e) m (before_marked near b ok p fit c (h c (has_head c cs) (own b) fit own_passes) m f)

  -- marks are a run
  mark_run : (p cs : List ℕ) → Fits near p (own b) → AllForced p cs true → Run near also b p (mark_mines p cs)
  mark_run p [] fit h = start
  mark_run p (c ∷ cs) fit h =
      run_join near also b (mine c start (h c (has_head c cs))) (mark_run (set p c 11) cs (head_marked p c cs fit h) (rest_mines p c cs fit h))

  -- if the first was closed, fewer are closed then
  mark_less : (p : List ℕ) (c : ℕ) (cs : List ℕ) → Fits near p (own b) → AllForced p (c ∷ cs) true → shows p c ≡ 10
      → closed (mark_mines p (c ∷ cs)) < closed p
  mark_less p c cs fit h shut =
      let after = head_marked p c cs fit h in
      written_less p c 11 shut (omega arith) after (mark_run (set p c 11) cs after (rest_mines p c cs fit h))

  -- ---- the flood

  -- what the flood goes on with when it has opened c
  abbrev next : ℕ → List ℕ → List ℕ
  next c cs = cond (eqb (cell_of b c) 0) (near c ++ cs) cs

  -- all of it is free if the list was, since around an open 0 all is
  next_free : (p : List ℕ) (c : ℕ) (cs : List ℕ) → shows p c ≡ cell_of b c → AllForced p cs false → AllForced p (next c cs) false
  next_free p c cs e h d = go (decided (eqb (cell_of b c) 0))
    where
      either : cell_of b c ≡ 0 → (has (near c) d ≡ true) ⊎ (has cs d ≡ true) → ForcedAmong near also p d false
      either z (inl k) = λ m f _. zero_forced near p c d (e ∙ z) k m f
      either z (inr k) = h d k

      go : Decided (eqb (cell_of b c) 0) → has (next c cs) d ≡ true → ForcedAmong near also p d false
      go (inl z) = rw z (λ k. either (eqb-true (cell_of b c) 0 z) (or_cases (has (near c) d) (has cs d) (rw (has_append (near c) cs d) at k)))
      go (inr z) = rw z (h d)

  -- the first cell of a list is closed, and is opened: the own layout goes on to fit, and what comes next is free
  module _ (p : List ℕ) (c : ℕ) (cs : List ℕ) (fit : Fits near p (own b)) (h : AllForced p (c ∷ cs) false) (shut : shows p c ≡ 10) where
    head_on : c < length b
    head_on = fit_on near b p fit c (omega arith)

    head_free : mine_at (own b) c ≡ false
    head_free = h c (has_head c cs) (own b) fit own_passes

    head_opened : Fits near (set p c (cell_of b c)) (own b)
    head_opened = own_opened near b ok p fit c head_on head_free

    rest_free : AllForced (set p c (cell_of b c)) (next c cs) false
    rest_free = next_free (set p c (cell_of b c)) c cs (get_or-set_same p c (cell_of b c) 255 (on_board p c (omega arith)))
        (λ d e m f. h d (has_tail c cs d e) m (before_opened near b ok p fit c head_on head_free m f))

  -- the flood is a run
  flood_run : (k : ℕ) (p cs : List ℕ) → Fits near p (own b) → AllForced p cs false → Run near also b p (flood near b k p cs)
  flood_run zero p cs fit h = start
  flood_run (suc k) p [] fit h = start
  flood_run (suc k) p (c ∷ cs) fit h = go (decided (eqb (shows p c) 10)) (flood_run k)
    where
      go : Decided (eqb (shows p c) 10)
          → ((q ds : List ℕ) → Fits near q (own b) → AllForced q ds false → Run near also b q (flood near b k q ds))
          → Run near also b p (flood near b (suc k) p (c ∷ cs))
      go (inr e) ih = rw e (ih p cs fit (λ d x. h d (has_tail c cs d x)))
      go (inl e) ih =
          let shut : shows p c ≡ 10 = eqb-true (shows p c) 10 e in
          rw e
          (run_join near also b (opens c start (head_on p c cs fit h shut) (h c (has_head c cs)))
          (ih (set p c (cell_of b c)) _ (head_opened p c cs fit h shut) (rest_free p c cs fit h shut)))

  -- if the first cell of the list was closed, fewer are closed then
  flood_less : (k : ℕ) (p : List ℕ) (c : ℕ) (cs : List ℕ) → Fits near p (own b) → AllForced p (c ∷ cs) false → shows p c ≡ 10
      → closed (flood near b (suc k) p (c ∷ cs)) < closed p
  flood_less k p c cs fit h shut =
      let small : cell_of b c ≤ 8 = ok.small c (head_on p c cs fit h shut) (own_safe b c (head_free p c cs fit h shut)) in
      let after = head_opened p c cs fit h shut in
      rw (eq-eqb (shows p c) 10 shut)
      (written_less p c (cell_of b c) shut (omega arith) after (flood_run k (set p c (cell_of b c)) (next c cs) after (rest_free p c cs fit h shut)))

  -- ---- the beginning and a pass

  -- the start is opened, and its flood is a run
  pub begin_run : (s : ℕ) → s < length b → cell_of b s ≢ 255 → Run near also b (first b s) (beginning near b s)
  unfolding open_cells
  begin_run s l n =
      let takes : length (s ∷ []) + 9 * length b ≡ suc (9 * length b) = omega arith in
      let shut : shows (replicate (length b) 10) s ≡ 10 = get_or-replicate (length b) s 10 255 l in
      let open_s : shows (first b s) s ≡ cell_of b s = get_or-set_same (replicate (length b) 10) s (cell_of b s) 255 (rw length-replicate l) in
      rw (takes, shut)
      (flood_run (9 * length b) (first b s) (next s []) (first_own near b ok s l n) (next_free (first b s) s [] open_s (λ d e. clash false e refl)))

  -- a list of mines is marked, then a list of free cells is opened
  marks_then_floods : (p ss ms : List ℕ) → Fits near p (own b) → AllForced p ss false → AllForced p ms true
      → Run near also b p (open_cells near b (mark_mines p ms) ss)
  unfolding open_cells
  marks_then_floods p ss ms fit safe mines =
      let r = mark_run p ms fit mines in
      run_join near also b r
      (flood_run (length ss + 9 * length b) (mark_mines p ms) ss (run_own near also b ok own_passes fit r)
      (λ c h m f. safe c h m (run_back near also b ok own_passes fit r m f)))

  -- if some cell of the lists was closed, fewer are closed then
  fewer_closed : (p ss ms : List ℕ) → Fits near p (own b)
      → ((c : ℕ) → has ss c ≡ true → (shows p c ≡ 10) × ForcedAmong near also p c false)
      → ((c : ℕ) → has ms c ≡ true → (shows p c ≡ 10) × ForcedAmong near also p c true)
      → (empty ss && empty ms) ≡ false → closed (open_cells near b (mark_mines p ms) ss) < closed p
  unfolding open_cells
  fewer_closed p [] [] fit safe mines h = clash true refl h
  fewer_closed p (c ∷ ss) [] fit safe mines h =
      let takes : length (c ∷ ss) + 9 * length b ≡ suc (length ss + 9 * length b) = omega arith in
      rw takes (flood_less (length ss + 9 * length b) p c ss fit (λ d e. (safe d e).1) (safe c (has_head c ss)).0)
  fewer_closed p ss (c ∷ ms) fit safe mines h =
      let t : AllForced p (c ∷ ms) true = (λ d e. (mines d e).1) in
      let r = mark_run p (c ∷ ms) fit t in
      let f = run_own near also b ok own_passes fit r in
      let u = flood_run (length ss + 9 * length b) (mark_mines p (c ∷ ms)) ss f (λ d e m k. (safe d e).1 m (run_back near also b ok own_passes fit r m k)) in
      omega (arith, run_closed (mark_mines p (c ∷ ms)) f u, mark_less p c ms fit t (mines c (has_head c ms)).0)

  module _ (rule : List ℕ → GradedCells) (sound : SoundAmong near also b rule) (p : List ℕ) (fit : Fits near p (own b)) where
    -- a pass is a run
    pub pass_run : Run near also b p (pass near b p (rule p))
    unfolding pass
    pass_run = marks_then_floods p (rule p).safe (rule p).mines fit (λ c h. (sound.safe p fit c h).1) (λ c h. (sound.mines p fit c h).1)

    -- a pass that finds a cell leaves fewer closed ones
    pub pass_less : nothing (rule p) ≡ false → closed (pass near b p (rule p)) < closed p
    unfolding pass
    pass_less = fewer_closed p (rule p).safe (rule p).mines fit (sound.safe p fit) (sound.mines p fit)
