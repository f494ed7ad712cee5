-- A flood on its way, whatever the order in which it takes its cells: `SoFar p cs q ds` says that from the list cs in the position p it has come to the
-- position q, and that ds is still to be opened. It begins with the whole list (`so_far_start`), goes on by opening a closed cell of what is still to be
-- opened (`so_far_open`), and does not ask in which order this stands nor which open cells are in it (`so_far_alike`). Where nothing is left, each reached
-- cell shows the board's number and any other what it showed (`end_opens`, `end_keeps`), so that there is one such position (`end_same`). A flood that begins
-- where another has ended is one flood from both lists (`so_far_again`). Assumes nothing.
use mathlib.Core.Path.{◌≡◌, refl, sym, ◌∙◌}
use mathlib.Core.Logic.{◌⊎◌, inl, inr, ◌≢◌}
use mathlib.Core.Bool.{true, false, cond}
use mathlib.Core.List.{List, [], ◌∷◌, ◌++◌}
use Prim.Native.Nat.{ℕ, ◌<◌}
use native.Mathlib.Omega.{arith}
use lib.Dec.{eqb}
use lib.ListN.{length, set, length-set}
use lib.Seq.{get_or-set_same, get_or-set_other, ext_get_or}
use borrow.Author.Tests.{eqb-true, eqb-false, eq-eqb, ne_eqb}
use Rattle.lists.specs.Lists.{has}
use Rattle.lists.proofs.Tests.{Decided, decided, clash, or_cases, or_left, or_right}
use Rattle.lists.proofs.Members.{has_head, has_append}
use Rattle.lists.proofs.Unions.{append_cases}
use Rattle.lists.proofs.Elements.{set_all}
use Rattle.grid.specs.Cells.{cell_of, shows}
use Rattle.fitting.specs.Boards.{Accepted}
use Rattle.fitting.proofs.Layouts.{on_board}
use Rattle.flood.specs.Reached.{Reached, in_list, beside_zero}

-- the neighbours that an opened cell brings: those of a 0, else none
abbrev pub brings : (ℕ → List ℕ) → List ℕ → ℕ → List ℕ
brings near b c = cond (eqb (cell_of b c) 0) (near c) []

-- no cell of an accepted board is 10, so that an opened cell isn't closed
pub not_ten : (near : ℕ → List ℕ) (b : List ℕ) → Accepted near b → (c : ℕ) → c < length b → cell_of b c ≢ 10
not_ten near b ok c l = go (decided (eqb (cell_of b c) 255))
  where
    go : Decided (eqb (cell_of b c) 255) → cell_of b c ≢ 10
    go (inl e) = let w : cell_of b c ≡ 255 = eqb-true (cell_of b c) 255 e in omega arith
    go (inr e) = omega (arith, ok.small c l (eqb-false (cell_of b c) 255 e))

-- a cell c that shows v now shows what p shows, or is reached and shows the board's number
abbrev pub KeptOrOpened : (ℕ → List ℕ) → List ℕ → List ℕ → List ℕ → ℕ → ℕ → Type 0
KeptOrOpened near b p cs c v = (v ≡ shows p c) ⊎ (Reached near b p cs c × (v ≡ cell_of b c))

-- each cell of q is kept or opened so; and ds, whose closed cells are all reached, has each closed cell of the list and each closed neighbour of an opened 0
pub record SoFar (near : ℕ → List ℕ) (b p cs q ds : List ℕ) : Type 0 where
  pub whole : length q ≡ length b
  pub each : (c : ℕ) → KeptOrOpened near b p cs c (shows q c)
  pub from_list : (c : ℕ) → has cs c ≡ true → shows q c ≡ 10 → has ds c ≡ true
  pub from_zero : (c d : ℕ) → Reached near b p cs c → shows q c ≢ 10 → cell_of b c ≡ 0 → has (near c) d ≡ true → shows q d ≡ 10 → has ds d ≡ true
  pub only : (c : ℕ) → has ds c ≡ true → shows q c ≡ 10 → Reached near b p cs c

-- what is reached from a list is reached from one that has all its cells
pub reached_more : (near : ℕ → List ℕ) (b p : List ℕ) {cs ds : List ℕ} → ((c : ℕ) → has cs c ≡ true → has ds c ≡ true)
    → {c : ℕ} → Reached near b p cs c → Reached near b p ds c
reached_more near b p more (in_list {c = c} h e) = in_list (more c h) e
reached_more near b p more (beside_zero r z n e) = beside_zero (reached_more near b p more r) z n e

-- and from one of its cells alone
pub reached_from_one : (near : ℕ → List ℕ) (b p cs : List ℕ) {c : ℕ} → Reached near b p cs c → (d : ℕ) × (has cs d ≡ true) × Reached near b p (d ∷ []) c
reached_from_one near b p cs (in_list {c = c} h e) = (c, h, in_list (has_head c []) e)
reached_from_one near b p cs (beside_zero r z n e) = let (d, h, from) = reached_from_one near b p cs r in (d, h, beside_zero from z n e)

module _ (near : ℕ → List ℕ) (b p cs : List ℕ) where
  -- a reached cell was closed
  pub reached_closed : {c : ℕ} → Reached near b p cs c → shows p c ≡ 10
  reached_closed (in_list h e) = e
  reached_closed (beside_zero r z n e) = e

  -- ---- how it begins and goes on

  pub so_far_start : length p ≡ length b → SoFar near b p cs p cs
  so_far_start h = record {
    whole = h;
    each = λ c. inl refl;
    from_list = λ c k e. k;
    from_zero = λ c d r n z k e. absurd (n (reached_closed r));
    only = λ c k e. in_list k e;
  }

  -- what is still to be opened matters only by the closed cells that it has
  pub so_far_alike : (q ds es : List ℕ) → ((c : ℕ) → shows q c ≡ 10 → has ds c ≡ has es c) → SoFar near b p cs q ds → SoFar near b p cs q es
  so_far_alike q ds es same f = record {
    whole = f.whole;
    each = f.each;
    from_list = λ c k e. sym (same c e) ∙ f.from_list c k e;
    from_zero = λ c d r n z k e. sym (same d e) ∙ f.from_zero c d r n z k e;
    only = λ c k e. f.only c (same c e ∙ k) e;
  }

  -- so a cell that isn't closed is passed over
  pub so_far_pass : (q : List ℕ) (d : ℕ) (ds : List ℕ) → shows q d ≢ 10 → SoFar near b p cs q (d ∷ ds) → SoFar near b p cs q ds
  so_far_pass q d ds shown = so_far_alike q (d ∷ ds) ds (λ c e. rw (ne_eqb c d (λ x. shown (rw x at e))))

  -- a closed cell is opened, and brings its neighbours if it is a 0
  module _ (ok : Accepted near b) (q : List ℕ) (d : ℕ) (ds : List ℕ) (shut : shows q d ≡ 10) (f : SoFar near b p cs q (d ∷ ds)) where
    abbrev after : List ℕ
    after = set q d (cell_of b d)

    on : d < length q
    on = on_board q d (omega arith)

    shown : shows after d ≡ cell_of b d
    shown = get_or-set_same q d (cell_of b d) 255 on

    opened : shows after d ≢ 10
    opened e = not_ten near b ok d (omega (arith, on, f.whole)) (sym shown ∙ e)

    elsewhere : (c : ℕ) → c ≢ d → shows after c ≡ shows q c
    elsewhere c n = get_or-set_other q d c (cell_of b d) 255 n

    -- a cell that is closed then is another, and was closed
    other : (c : ℕ) → shows after c ≡ 10 → c ≢ d
    other c e x = opened (rw x at e)

    was : (c : ℕ) → shows after c ≡ 10 → shows q c ≡ 10
    was c e = sym (elsewhere c (other c e)) ∙ e

    abbrev next : List ℕ
    next = brings near b d ++ ds

    -- what was still to be opened still is
    stays : (c : ℕ) → shows after c ≡ 10 → has (d ∷ ds) c ≡ true → has next c ≡ true
    stays c e h = has_append (brings near b d) ds c ∙ or_right (has (brings near b d) c) (has ds c) (rw (ne_eqb c d (other c e)) at h)

    -- and so are the neighbours of a 0
    brought : cell_of b d ≡ 0 → (c : ℕ) → has (near d) c ≡ true → has next c ≡ true
    brought z c h = has_append (brings near b d) ds c ∙ or_left (has (brings near b d) c) (has ds c) (rw (eq-eqb (cell_of b d) 0 z) h)

    -- a closed neighbour of an opened 0 is still to be opened
    zero_next : (c e : ℕ) → Decided (eqb c d) → Reached near b p cs c → shows after c ≢ 10 → cell_of b c ≡ 0 → has (near c) e ≡ true → shows after e ≡ 10 → has next e ≡ true
    zero_next c e (inl x) r n z k u = let w : c ≡ d = eqb-true c d x in brought (rw w at z) e (rw w at k)
    zero_next c e (inr x) r n z k u =
        let m = eqb-false c d x in
        stays e u (f.from_zero c e r (λ w. n (elsewhere c m ∙ w)) z k (was e u))

    -- and what is still to be opened is reached
    reached_next : (c : ℕ) → has next c ≡ true → shows after c ≡ 10 → Reached near b p cs c
    reached_next c h e = go (decided (eqb (cell_of b d) 0)) (or_cases (has (brings near b d) c) (has ds c) (sym (has_append (brings near b d) ds c) ∙ h))
      where
        new : cell_of b d ≡ 0 → has (near d) c ≡ true → KeptOrOpened near b p cs c (shows q c) → Reached near b p cs c
        new z k (inl x) = beside_zero (f.only d (has_head d ds) shut) z k (sym x ∙ was c e)
        new z k (inr x) = x.0

        go : Decided (eqb (cell_of b d) 0) → (has (brings near b d) c ≡ true) ⊎ (has ds c ≡ true) → Reached near b p cs c
        go (inl z) (inl k) = new (eqb-true (cell_of b d) 0 z) (rw z at k) (f.each c)
        go (inr z) (inl k) = clash false (rw z at k) refl
        go z (inr k) = f.only c (or_right (eqb c d) _ k) (was c e)

    pub so_far_open : SoFar near b p cs (set q d (cell_of b d)) (brings near b d ++ ds)
    so_far_open = record {
      whole = length-set q d (cell_of b d) ∙ f.whole;
      each = set_all (KeptOrOpened near b p cs) q 255 d (cell_of b d) (inr (f.only d (has_head d ds) shut, refl)) f.each;
      from_list = λ c k e. stays c e (f.from_list c k (was c e));
      from_zero = λ c e. zero_next c e (decided (eqb c d));
      only = reached_next;
    }

  -- ---- where nothing is left to be opened

  -- no reached cell is closed
  end_open : (q : List ℕ) → SoFar near b p cs q [] → {c : ℕ} → Reached near b p cs c → shows q c ≢ 10
  end_open q f (in_list {c = c} h e) = λ x. clash false (f.from_list c h x) refl
  end_open q f (beside_zero {c = c} {d = d} r z n e) = λ x. clash false (f.from_zero c d r (end_open q f r) z n x) refl

  module _ (q : List ℕ) (f : SoFar near b p cs q []) where
    -- each reached cell shows the board's number
    pub end_opens : (c : ℕ) → Reached near b p cs c → shows q c ≡ cell_of b c
    end_opens c r = go (f.each c)
      where
        go : KeptOrOpened near b p cs c (shows q c) → shows q c ≡ cell_of b c
        go (inl e) = absurd (end_open q f r (e ∙ reached_closed r))
        go (inr e) = e.1

    -- any other shows what it showed
    pub end_keeps : (c : ℕ) → (Reached near b p cs c → ⊥) → shows q c ≡ shows p c
    end_keeps c n = go (f.each c)
      where
        go : KeptOrOpened near b p cs c (shows q c) → shows q c ≡ shows p c
        go (inl e) = e
        go (inr e) = absurd (n e.0)

  -- so the position is one and the same
  pub end_same : (q r : List ℕ) → SoFar near b p cs q [] → SoFar near b p cs r [] → q ≡ r
  end_same q r f g = ext_get_or 255 q r (f.whole ∙ sym g.whole) (λ c _. go c (f.each c) (g.each c))
    where
      go : (c : ℕ) → KeptOrOpened near b p cs c (shows q c) → KeptOrOpened near b p cs c (shows r c) → shows q c ≡ shows r c
      go c (inl e) (inl x) = e ∙ sym x
      go c (inr e) x = end_opens q f c e.0 ∙ sym (end_opens r g c e.0)
      go c (inl e) (inr x) = end_opens q f c x.0 ∙ sym (end_opens r g c x.0)

-- ---- a flood from the list ds that begins where one from cs has ended

module _ (near : ℕ → List ℕ) (b p cs q ds r : List ℕ) (f : SoFar near b p cs q []) (g : SoFar near b q ds r []) where
  -- a cell that is closed when the first has ended was closed before it
  closed_before : (c : ℕ) → shows q c ≡ 10 → shows p c ≡ 10
  closed_before c e = go (f.each c)
    where
      go : KeptOrOpened near b p cs c (shows q c) → shows p c ≡ 10
      go (inl x) = sym x ∙ e
      go (inr x) = reached_closed near b p cs x.0

  -- and one that is closed when the second has ended was closed between them
  closed_between : (c : ℕ) → shows r c ≡ 10 → shows q c ≡ 10
  closed_between c e = go (g.each c)
    where
      go : KeptOrOpened near b q ds c (shows r c) → shows q c ≡ 10
      go (inl x) = sym x ∙ e
      go (inr x) = reached_closed near b q ds x.0

  first_reached : {c : ℕ} → Reached near b p cs c → Reached near b p (cs ++ ds) c
  first_reached = reached_more near b p (λ c h. has_append cs ds c ∙ or_left (has cs c) (has ds c) h)

  then_reached : {c : ℕ} → Reached near b q ds c → Reached near b p (cs ++ ds) c
  then_reached (in_list {c = c} h e) = in_list (has_append cs ds c ∙ or_right (has cs c) (has ds c) h) (closed_before c e)
  then_reached (beside_zero {d = d} x z n e) = beside_zero (then_reached x) z n (closed_before d e)

  each_again : (c : ℕ) → KeptOrOpened near b q ds c (shows r c) → KeptOrOpened near b p cs c (shows q c) → KeptOrOpened near b p (cs ++ ds) c (shows r c)
  each_again c (inl e) (inl x) = inl (e ∙ x)
  each_again c (inl e) (inr x) = inr (first_reached x.0, e ∙ x.1)
  each_again c (inr e) x = inr (then_reached e.0, e.1)

  -- what the first has opened, or else the second, brings nothing more
  zero_again : (c d : ℕ) → KeptOrOpened near b q ds c (shows r c) → KeptOrOpened near b p cs c (shows q c) → Reached near b p (cs ++ ds) c
      → shows r c ≢ 10 → cell_of b c ≡ 0 → has (near c) d ≡ true → shows r d ≡ 10 → has [] d ≡ true
  zero_again c d (inl e) (inl x) reached n z k u = absurd (n (e ∙ x ∙ reached_closed near b p (cs ++ ds) reached))
  zero_again c d (inl e) (inr x) reached n z k u = f.from_zero c d x.0 (λ y. n (e ∙ y)) z k (closed_between d u)
  zero_again c d (inr e) x reached n z k u = g.from_zero c d e.0 n z k u

  list_again : (c : ℕ) → (has cs c ≡ true) ⊎ (has ds c ≡ true) → shows r c ≡ 10 → has [] c ≡ true
  list_again c (inl h) u = f.from_list c h (closed_between c u)
  list_again c (inr h) u = g.from_list c h u

  pub so_far_again : SoFar near b p (cs ++ ds) r []
  so_far_again = record {
    whole = g.whole;
    each = λ c. each_again c (g.each c) (f.each c);
    from_list = λ c h. list_again c (append_cases cs ds c h);
    from_zero = λ c d. zero_again c d (g.each c) (f.each c);
    only = λ c h. clash false h refl;
  }
