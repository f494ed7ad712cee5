-- A sweep over equations from the last to the first, which lists the cells of those that pass a test. What is listed, with what the equations not yet met
-- still add, is the whole (`Sweeping`). The second sweep of the direct rule may ask every equation whether its mines are all known: one of the first
-- sweep has all its cells marked as mines, so that it adds none. Rests on the laws of listed cells. Assumes nothing.
use mathlib.Core.Path.{◌≡◌, refl, sym, ap, ◌∙◌}
use mathlib.Core.Logic.{inl, inr}
use mathlib.Core.Bool.{Bool, true, false, not, cond, ◌&&◌}
use mathlib.Core.List.{List, [], ◌∷◌, ◌++◌, map, map-map, map-append, append-nil, reverse, reverse-append, Memᴰ}
use Prim.Native.Nat.{ℕ, ◌+◌, ◌-◌, ◌≤◌, ◌<◌}
use native.Mathlib.Omega.{arith}
use lib.Dec.{eqb}
use lib.ListN.{length, get_or, take, length-take}
use borrow.Author.Tests.{eqb-true, eq-eqb, ne_eqb}
use Rattle.lists.specs.Lists.{range, keep, count, has, joined, add_new}
use Rattle.lists.proofs.Tests.{Decided, decided, same_test}
use Rattle.lists.proofs.Members.{range_none}
use Rattle.lists.proofs.Counts.{count_le, count_ext}
use Rattle.lists.proofs.AddNew.{add_new_append}
use Rattle.lists.proofs.Kept.{keep_append, keep_all, keep_both, keep_map, keep_none, keep_ext}
use Rattle.lists.proofs.Backwards.{range_back}
use Rattle.lists.proofs.Joined.{joined_push}
use Rattle.lists.proofs.TurnedRound.{keep_reverse, map_agree, joined_keep}
use Rattle.grid.specs.Window.{listed}
use Rattle.grid.specs.declared.window.UpToEight.{UpToEight}
use Rattle.blocks.specs.Blocks.{BlockEquation}
use Rattle.blocks.specs.BlockSets.{slot_cells}
use Rattle.blocks.specs.Places.{marked, Marks, OnBoard, equations_from}
use Rattle.blocks.proofs.MarkLaws.{marks_has}
use Rattle.blocks.proofs.Between.{equation_of, listed_cells}
use Rattle.marks.specs.Marked.{Listed}
use Rattle.direct.specs.Found.{less_mines}
use Rattle.direct.specs.Direct.{full, clear, sure_mines, after_mines, sure_safe}
use Rattle.direct.proofs.DirectLaws.{not_full, equation_cells_of}

-- ---- the cells of the equations that pass a test, from the last to the first

-- with repetition; the cells of an equation are those that g gives
abbrev pub cells_back : (BlockEquation → List ℕ) → (BlockEquation → Bool) → List BlockEquation → List ℕ
cells_back g t es = reverse (joined (map g (keep t es)))

module _ (g : BlockEquation → List ℕ) (t : BlockEquation → Bool) (es : List BlockEquation) (e : BlockEquation) where
  -- the last equation passes
  pub cells_back_given : t e ≡ true → cells_back g t (es ++ (e ∷ [])) ≡ reverse (g e) ++ cells_back g t es
  cells_back_given h =
      ap (λ (l : List BlockEquation). reverse (joined (map g l))) (keep_append t es (e ∷ []) ∙ ap (λ (k : List BlockEquation). keep t es ++ k) (rw h))
      ∙ ap reverse (joined_push g (keep t es) e)
      ∙ reverse-append (joined (map g (keep t es))) (g e)

  -- it doesn't
  pub cells_back_passed : t e ≡ false → cells_back g t (es ++ (e ∷ [])) ≡ cells_back g t es
  cells_back_passed h =
      ap (λ (l : List BlockEquation). reverse (joined (map g l)))
      (keep_append t es (e ∷ []) ∙ ap (λ (k : List BlockEquation). keep t es ++ k) (rw h) ∙ append-nil (keep t es))

-- ---- a sweep

-- the list, with what the first equations still add, is the whole
pub record Sweeping (g : BlockEquation → List ℕ) (t : BlockEquation → Bool) (whole marks out : List ℕ) (n : ℕ) (es : List BlockEquation) : Type 0 where
  pub listed : Listed marks out n
  pub left : add_new (take n out) (cells_back g t es) ≡ whole

module _ {g : BlockEquation → List ℕ} {t : BlockEquation → Bool} {whole marks out : List ℕ} {n : ℕ} {es : List BlockEquation}
    (s : Sweeping g t whole marks out n es) where
  -- no equation is left
  pub sweeping_end : es ≡ [] → Listed marks out n × (take n out ≡ whole)
  sweeping_end e = (s.listed, ap (λ (l : List BlockEquation). add_new (take n out) (cells_back g t l)) (sym e) ∙ s.left)

  module _ (ds : List BlockEquation) (e : BlockEquation) (last : es ≡ ds ++ (e ∷ [])) where
    -- the last equation passes, and its cells are added
    pub sweeping_given : t e ≡ true → {marks' out' : List ℕ} {m : ℕ} → Listed marks' out' m → take m out' ≡ add_new (take n out) (reverse (g e))
        → Sweeping g t whole marks' out' m ds
    sweeping_given h held more =
        record {
          listed = held;
          left = ap (λ (l : List ℕ). add_new l (cells_back g t ds)) more
              ∙ sym (add_new_append (take n out) (reverse (g e)) (cells_back g t ds))
              ∙ sym (ap (add_new (take n out)) (ap (cells_back g t) last ∙ cells_back_given g t ds e h))
              ∙ s.left;
        }

    -- it doesn't
    pub sweeping_passed : t e ≡ false → Sweeping g t whole marks out n ds
    sweeping_passed h =
        record {
          listed = s.listed;
          left = sym (ap (add_new (take n out)) (ap (cells_back g t) last ∙ cells_back_passed g t ds e h)) ∙ s.left;
        }

-- ---- the equations before a place

module _ (slots rests : List ℕ) (e : ℕ) where
  -- the last of them
  pub equations_back : 0 < e → equations_from slots rests 0 e ≡ equations_from slots rests 0 (e - 1) ++ (equation_of slots rests (e - 1) ∷ [])
  unfolding equations_from
  equations_back h = ap (map (equation_of slots rests)) (range_back 0 e h) ∙ map-append (equation_of slots rests) (range 0 (e - 1 - 0)) ((e - 1) ∷ [])

  -- none is before the first
  pub equations_before : e ≤ 0 → equations_from slots rests 0 e ≡ []
  unfolding equations_from
  equations_before h = ap (map (equation_of slots rests)) (range_none 0 e h)

-- ---- first sweep: what the code asks of an equation, and adds of it

module _ (near : UpToEight) (slots rests : List ℕ) (e : ℕ) (is : near ≡ listed (slot_cells slots e)) where
  cells_count : near.len ≡ length (slot_cells slots e)
  cells_count = ap (λ (x : UpToEight). x.len) is

  -- the equation is full
  pub asked_full : get_or rests e 0 ≡ 8 + near.len → full (equation_of slots rests e) ≡ true
  asked_full h = eq-eqb (get_or rests e 0) (length (slot_cells slots e) + 8) (omega (arith, cells_count, h))

  -- it isn't
  pub asked_not_full : (get_or rests e 0 ≡ 8 + near.len → ⊥) → full (equation_of slots rests e) ≡ false
  asked_not_full h = ne_eqb (get_or rests e 0) (length (slot_cells slots e) + 8) (λ w. h (omega (arith, cells_count, w)))

  -- where nothing is marked there, all its cells are added
  pub added_all : (there l k : List ℕ) → Marks there [] → k ≡ add_new l (keep (λ c. not (marked there c)) (reverse (take near.len near.cells)))
      → k ≡ add_new l (reverse (slot_cells slots e))
  added_all there l k none h =
      h
      ∙ ap (add_new l)
      (keep_all (λ c. not (marked there c)) (reverse (take near.len near.cells)) (λ c. rw (marks_has none c))
      ∙ ap reverse (listed_cells near slots e is))

-- ---- second sweep

-- no mine is left beside the known ones
abbrev pub none_left : List ℕ → BlockEquation → Bool
none_left ms e = eqb e.rest (count (has ms) e.cells + 8)

-- the cells that aren't known mines
abbrev pub other_cells : List ℕ → BlockEquation → List ℕ
other_cells ms e = keep (λ c. not (has ms c)) e.cells

-- that is so exactly where the equation is clear without the known mines
none_left_clear : (ms : List ℕ) (e : BlockEquation) → clear (less_mines ms e) ≡ none_left ms e
none_left_clear ms e =
    same_test (clear (less_mines ms e)) (none_left ms e)
    (λ h. let w = eqb-true (less_mines ms e).rest 8 h in eq-eqb e.rest (count (has ms) e.cells + 8) (omega arith))
    (λ h. let w = eqb-true e.rest (count (has ms) e.cells + 8) h in eq-eqb (less_mines ms e).rest 8 (omega arith))

-- an equation of the first sweep has no other cells
full_no_others : (es : List BlockEquation) (e : BlockEquation) → Memᴰ e es → full e ≡ true → other_cells (sure_mines es) e ≡ []
unfolding sure_mines
full_no_others es e m h =
    keep_ext (λ c. not (has (sure_mines es) c)) (λ _. false) e.cells (λ c k. rw (equation_cells_of full es c e m h k)) ∙ keep_none e.cells

-- so each equation may be asked
pub safe_asked_of_all : (es : List BlockEquation) → sure_safe es ≡ add_new [] (cells_back (other_cells (sure_mines es)) (none_left (sure_mines es)) es)
unfolding sure_safe
safe_asked_of_all es = ap (λ (l : List ℕ). add_new [] (reverse l)) same
  where
    ms : List ℕ
    ms = sure_mines es

    cells : BlockEquation → List ℕ
    cells e = e.cells

    asked : BlockEquation → Bool
    asked e = not_full e && clear (less_mines ms e)

    agree : (e : BlockEquation) → Memᴰ e es → cond (asked e) (other_cells ms e) [] ≡ cond (none_left ms e) (other_cells ms e) []
    agree e m = go (decided (full e))
      where
        either : (t : Bool) → ◌≡◌ {A = List ℕ} [] (cond t [] [])
        either true = refl
        either false = refl

        go : Decided (full e) → cond (asked e) (other_cells ms e) [] ≡ cond (none_left ms e) (other_cells ms e) []
        go (inl h) = rw (h, full_no_others es e m h) (either (none_left ms e))
        go (inr h) = rw (h, none_left_clear ms e)

    same : joined (map cells (keep clear (after_mines es))) ≡ joined (map (other_cells ms) (keep (none_left ms) es))
    same =
        ap (λ (l : List BlockEquation). joined (map cells l)) (keep_map (less_mines ms) clear (keep not_full es))
        ∙ ap joined (map-map cells (less_mines ms) (keep (λ (e : BlockEquation). clear (less_mines ms e)) (keep not_full es)))
        ∙ ap (λ (l : List BlockEquation). joined (map (other_cells ms) l)) (keep_both (λ (e : BlockEquation). clear (less_mines ms e)) not_full es)
        ∙ joined_keep (other_cells ms) asked es
        ∙ ap joined (map_agree (λ (e : BlockEquation). cond (asked e) (other_cells ms e) []) (λ (e : BlockEquation). cond (none_left ms e) (other_cells ms e) []) es agree)
        ∙ sym (joined_keep (other_cells ms) (none_left ms) es)

-- at most eight cells of a list are marked
pub counted_few : (near : UpToEight) (mines : List ℕ) (n : ℕ) → OnBoard near → n ≡ count (marked mines) (take near.len near.cells) → n ≤ 8
counted_few near mines n on counted =
    omega (arith, count_le (marked mines) (take near.len near.cells), length-take near.len near.cells, on.few, counted)

module _ (near : UpToEight) (slots rests : List ℕ) (e : ℕ) (is : near ≡ listed (slot_cells slots e)) (mines ms : List ℕ) (known : Marks mines ms) where
  marked_count : count (marked mines) (take near.len near.cells) ≡ count (has ms) (slot_cells slots e)
  marked_count =
      ap (count (marked mines)) (listed_cells near slots e is)
      ∙ count_ext (marked mines) (has ms) (slot_cells slots e) (λ c h. marks_has known c)

  -- no mine of the equation is left
  pub asked_none_left : (n : ℕ) → n ≡ count (marked mines) (take near.len near.cells) → get_or rests e 0 ≡ 8 + n
      → none_left ms (equation_of slots rests e) ≡ true
  asked_none_left n counted h = eq-eqb (get_or rests e 0) (count (has ms) (slot_cells slots e) + 8) (omega (arith, counted ∙ marked_count, h))

  -- one is left
  pub asked_some_left : (n : ℕ) → n ≡ count (marked mines) (take near.len near.cells) → (get_or rests e 0 ≡ 8 + n → ⊥)
      → none_left ms (equation_of slots rests e) ≡ false
  asked_some_left n counted h =
      ne_eqb (get_or rests e 0) (count (has ms) (slot_cells slots e) + 8) (λ w. h (omega (arith, counted ∙ marked_count, w)))

  -- the cells that aren't mines are added
  pub added_others : (l k : List ℕ) → k ≡ add_new l (keep (λ c. not (marked mines c)) (reverse (take near.len near.cells)))
      → k ≡ add_new l (reverse (other_cells ms (equation_of slots rests e)))
  added_others l k h =
      h
      ∙ ap (add_new l)
      (keep_reverse (λ c. not (marked mines c)) (take near.len near.cells)
      ∙ ap reverse
      (ap (keep (λ c. not (marked mines c))) (listed_cells near slots e is)
      ∙ keep_ext (λ c. not (marked mines c)) (λ c. not (has ms c)) (slot_cells slots e) (λ c u. rw (marks_has known c))))
