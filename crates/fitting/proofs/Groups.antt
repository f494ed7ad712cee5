-- Cells with equal columns, that is, cells that stand in the same equations, form a group, and are interchangeable: a mine may move from one to another.
-- So a solution is no more than a mine count for each group, a row; and a cell is the same in all solutions exactly when its group is empty, or full,
-- in every row. Of any family of equations. Rests on the laws of counts. Assumes nothing.
use mathlib.Core.Path.{◌≡◌, refl, sym, ap, ◌∙◌}
use mathlib.Core.Logic.{inl, inr, ◌≢◌, ◌↔◌}
use mathlib.Core.Bool.{Bool, true, false, cond, ◌||◌}
use mathlib.Core.List.{List, [], ◌∷◌}
use Prim.Native.Nat.{ℕ, zero, suc, ◌+◌, ◌≤◌, ◌<◌}
use native.Mathlib.Omega.{arith}
use native.Mathlib.Nat.{not-suc-le-zero, le_of_suc-le-suc}
use native.Mathlib.Decide.{ℕ_discrete}
use lib.ListN.{length, take}
use lib.Dec.{eqb}
use borrow.Author.Tests.{eqb-true, eqb-false, eq-eqb, ne_eqb}
use Rattle.lists.specs.Lists.{bit, keep, count, has, nodup}
use Rattle.lists.proofs.Tests.{Decided, decided, clash}
use Rattle.lists.proofs.Members.{has_head, has_tail, has_keep, kept_passes, kept_has, nodup_head, nodup_tail, nodup_keep}
use Rattle.lists.proofs.Counts.{count_le, count_none, count_full, count_zero, count_same, count_ext, some_passes, some_fails}
use Rattle.fitting.specs.Equations.{Equation}
use Rattle.fitting.proofs.Equations.{Solution}

-- ---- a mine moves

-- how often a number stands in a list
abbrev pub times : ℕ → List ℕ → ℕ
times c l = count (λ x. eqb x c) l

-- in a list with no number twice
pub times_has : (c : ℕ) (l : List ℕ) → nodup l ≡ true → times c l ≡ bit (has l c)
times_has c [] n = refl
times_has c (x ∷ l) n = go (decided (eqb x c)) (times_has c l (nodup_tail x l n)) (nodup_head x l n)
  where
    go : Decided (eqb x c) → times c l ≡ bit (has l c) → has l x ≡ false → bit (eqb x c) + times c l ≡ bit (eqb c x || has l c)
    go (inl e) ih out = let w : x ≡ c = eqb-true x c e in rw (ih, e, eq-eqb c x (sym w), rw w at out) (omega arith)
    go (inr e) ih out = rw (ih, e, ne_eqb c x (λ w. eqb-false x c e (sym w))) (omega arith)

-- the mine at a moves to c
abbrev pub move : ℕ → ℕ → (ℕ → Bool) → ℕ → Bool
move a c f x = cond (eqb x c) true (cond (eqb x a) false (f x))

-- the count grows by the times of c and falls by those of a
count_move : (a c : ℕ) (f : ℕ → Bool) (l : List ℕ) → f a ≡ true → f c ≡ false → count (move a c f) l + times a l ≡ count f l + times c l
count_move a c f [] h k = refl
count_move a c f (x ∷ l) h k = go (decided (eqb x c)) (decided (eqb x a)) (count_move a c f l h k)
  where
    go : Decided (eqb x c) → Decided (eqb x a) → count (move a c f) l + times a l ≡ count f l + times c l
        → count (move a c f) (x ∷ l) + times a (x ∷ l) ≡ count f (x ∷ l) + times c (x ∷ l)
    go (inl e) (inl d) ih = clash (f c) (rw (← eqb-true x c e, eqb-true x a d) h) k
    go (inl e) (inr d) ih = rw (e, d, eqb-true x c e, k) (omega arith)
    go (inr e) (inl d) ih = rw (e, d, eqb-true x a d, h) (omega arith)
    go (inr e) (inr d) ih = rw (e, d) (omega arith)

module _ {ι : Type 0} (eq : ι → Equation) where
  -- two cells with equal columns
  abbrev pub Alike : ℕ → ℕ → Type 0
  Alike a c = (i : ι) → times a (eq i).cells ≡ times c (eq i).cells

  -- a mine may move between them
  pub exchange : (f : ℕ → Bool) (a c : ℕ) → Alike a c → f a ≡ true → f c ≡ false → Solution eq f → Solution eq (move a c f)
  exchange f a c same h k s i = omega (arith, count_move a c f (eq i).cells h k, same i, s i)

  -- ---- one group

  module _ (g : List ℕ) (same : (a c : ℕ) → has g a ≡ true → has g c ≡ true → Alike a c) (c : ℕ) (k : has g c ≡ true) where
    -- a cell is safe in all solutions exactly when its group is empty in all
    pub group_safe : ((f : ℕ → Bool) → Solution eq f → f c ≡ false) ↔ ((f : ℕ → Bool) → Solution eq f → count f g ≡ 0)
    group_safe = (λ h f s. none h f s (ℕ_discrete (count f g) 0), λ h f s. count_none f g (h f s) c k)
      where
        none : ((f : ℕ → Bool) → Solution eq f → f c ≡ false) → (f : ℕ → Bool) → Solution eq f → Dec (count f g ≡ 0) → count f g ≡ 0
        none h f s (yes e) = e
        none h f s (no n) =
            let (a, l, t) = some_passes f g n in
            let e : true ≡ false = sym (rw (eq-eqb c c refl)) ∙ h (move a c f) (exchange f a c (same a c l k) t (h f s) s) in
            clash true refl e

    -- and a mine in all exactly when its group is full in all
    pub group_mine : ((f : ℕ → Bool) → Solution eq f → f c ≡ true) ↔ ((f : ℕ → Bool) → Solution eq f → count f g ≡ length g)
    group_mine = (λ h f s. full h f s (ℕ_discrete (count f g) (length g)), λ h f s. count_full f g (omega (arith, h f s)) c k)
      where
        full : ((f : ℕ → Bool) → Solution eq f → f c ≡ true) → (f : ℕ → Bool) → Solution eq f → Dec (count f g ≡ length g) → count f g ≡ length g
        full h f s (yes e) = e
        full h f s (no n) =
            let (a, l, t) = some_fails f g n in
            let d : c ≢ a = (λ w. clash (f a) (rw w at (h f s)) t) in
            let e : false ≡ true = sym (rw (ne_eqb c a d, eq-eqb c c refl)) ∙ h (move c a f) (exchange f c a (same c a k l) (h f s) t s) in
            clash true refl (sym e)

-- ---- sums over the groups

-- the sum of k 0, k 1, .. up to n, n left out
abbrev pub total : ℕ → (ℕ → ℕ) → ℕ
total zero k = 0
total (suc n) k = k n + total n k

pub total_ext : (n : ℕ) (k l : ℕ → ℕ) → ((j : ℕ) → j < n → k j ≡ l j) → total n k ≡ total n l
total_ext zero k l h = refl
total_ext (suc n) k l h = omega (arith, h n (omega arith), total_ext n k l (λ j w. h j (omega arith)))

total_zero : (n : ℕ) → total n (λ _. 0) ≡ 0
total_zero zero = refl
total_zero (suc n) = omega (arith, total_zero n)

-- one summand more, at r
total_add : (n r x : ℕ) (k : ℕ → ℕ) → r < n → total n (λ j. cond (eqb r j) x 0 + k j) ≡ x + total n k
total_add zero r x k h = absurd (not-suc-le-zero h)
total_add (suc n) r x k h = go (decided (eqb r n)) (total_add n r x k)
  where
    go : Decided (eqb r n) → (r < n → total n (λ j. cond (eqb r j) x 0 + k j) ≡ x + total n k)
        → cond (eqb r n) x 0 + k n + total n (λ j. cond (eqb r j) x 0 + k j) ≡ x + (k n + total n k)
    go (inl e) ih =
        let v : r ≡ n = eqb-true r n e in
        rw e (omega (arith, total_ext n (λ j. cond (eqb r j) x 0 + k j) k (λ j w. rw (ne_eqb r j (omega arith)) (omega arith))))
    go (inr e) ih = rw e (omega (arith, ih (let v : r ≢ n = eqb-false r n e in omega arith)))

-- a list's count, group by group: `group` tells each cell's
count_groups : (f : ℕ → Bool) (group : ℕ → ℕ) (n : ℕ) (l : List ℕ) → ((c : ℕ) → has l c ≡ true → group c < n)
    → count f l ≡ total n (λ j. count f (keep (λ c. eqb (group c) j) l))
count_groups f group n [] h = sym (total_zero n)
count_groups f group n (x ∷ l) h =
    ap (λ (w : ℕ). bit (f x) + w) (count_groups f group n l (λ c e. h c (has_tail x l c e)))
    ∙ sym (total_add n (group x) (bit (f x)) (λ j. count f (keep (λ c. eqb (group c) j) l)) (h x (has_head x l)))
    ∙ total_ext n _ _ (λ j w. one j (decided (eqb (group x) j)))
  where
    one : (j : ℕ) → Decided (eqb (group x) j)
        → cond (eqb (group x) j) (bit (f x)) 0 + count f (keep (λ c. eqb (group c) j) l) ≡ count f (keep (λ c. eqb (group c) j) (x ∷ l))
    one j (inl e) = rw e
    one j (inr e) = rw e (omega arith)

-- the first k of a list's cells are k
count_first : (l : List ℕ) (k : ℕ) → nodup l ≡ true → k ≤ length l → count (has (take k l)) l ≡ k
count_first l zero n h = count_zero (has (take zero l)) l (λ c _. refl)
count_first [] (suc k) n h = absurd (not-suc-le-zero h)
count_first (x ∷ l) (suc k) n h =
    rw (eq-eqb x x refl)
    (omega (arith, count_ext (λ c. eqb c x || has (take k l) c) (has (take k l)) l other, count_first l k (nodup_tail x l n) (le_of_suc-le-suc h)))
  where
    other : (c : ℕ) → has l c ≡ true → (eqb c x || has (take k l) c) ≡ has (take k l) c
    other c e = rw (ne_eqb c x (λ w. clash (has l x) (rw w at e) (nodup_head x l n)))

-- ---- all the groups

-- the groups of a family of equations, each a list of cells of which an equation has all or none
pub record Grouped {ι : Type 0} (eq : ι → Equation) : Type 0 where
  -- how many groups, the cells of each, the group of each cell, and whether an equation has a group's cells
  pub groups : ℕ
  pub members : ℕ → List ℕ
  pub group : ℕ → ℕ
  pub uses : ι → ℕ → Bool
  -- no cell stands twice, in a group or in an equation
  pub once : (j : ℕ) → nodup (members j) ≡ true
  pub distinct : (i : ι) → nodup (eq i).cells ≡ true
  -- a cell of a group has it for its group, and a cell of an equation is of a group
  pub group_of : (j c : ℕ) → has (members j) c ≡ true → group c ≡ j
  pub covered : (i : ι) (c : ℕ) → has (eq i).cells c ≡ true → (group c < groups) × (has (members (group c)) c ≡ true)
  -- an equation has all cells of a group, or none
  pub column : (i : ι) (j c : ℕ) → has (members j) c ≡ true → has (eq i).cells c ≡ uses i j

module _ {ι : Type 0} (eq : ι → Equation) (G : Grouped eq) where
  -- a row of the solution table: a mine count for each group, at most its size, with which each equation holds
  pub record Row (k : ℕ → ℕ) : Type 0 where
    pub small : (j : ℕ) → j < G.groups → k j ≤ length (G.members j)
    pub holds : (i : ι) → total G.groups (λ j. cond (G.uses i j) (k j) 0) + (eq i).known ≡ (eq i).number

  -- an equation's mines, group by group
  pub grouped_count : (f : ℕ → Bool) (i : ι) → count f (eq i).cells ≡ total G.groups (λ j. cond (G.uses i j) (count f (G.members j)) 0)
  grouped_count f i =
      count_groups f G.group G.groups (eq i).cells (λ c e. (G.covered i c e).0) ∙ total_ext G.groups _ _ (λ j _. one j (decided (G.uses i j)))
    where
      -- the equation's cells of a group
      part : ℕ → List ℕ
      part j = keep (λ c. eqb (G.group c) j) (eq i).cells

      member : (j c : ℕ) → has (part j) c ≡ true → has (G.members j) c ≡ true
      member j c e =
          rw (eqb-true (G.group c) j (kept_passes (λ d. eqb (G.group d) j) (eq i).cells c e))
          at (G.covered i c (kept_has (λ d. eqb (G.group d) j) (eq i).cells c e)).1

      same : (j : ℕ) → G.uses i j ≡ true → (c : ℕ) → has (part j) c ≡ has (G.members j) c
      same j u c = go (decided (has (G.members j) c)) (decided (has (part j) c))
        where
          go : Decided (has (G.members j) c) → Decided (has (part j) c) → has (part j) c ≡ has (G.members j) c
          go (inl a) x = rw (a, has_keep (λ d. eqb (G.group d) j) (eq i).cells c, eq-eqb (G.group c) j (G.group_of j c a)) (G.column i j c a ∙ u)
          go (inr a) (inl x) = clash (has (G.members j) c) (member j c x) a
          go (inr a) (inr x) = x ∙ sym a

      one : (j : ℕ) → Decided (G.uses i j) → count f (part j) ≡ cond (G.uses i j) (count f (G.members j)) 0
      one j (inl u) =
          let once = nodup_keep (λ c. eqb (G.group c) j) (eq i).cells (G.distinct i) in
          rw u (count_same f (part j) (G.members j) once (G.once j) (same j u))
      one j (inr u) = rw u (count_zero f (part j) (λ c e.
          clash (has (eq i).cells c) (kept_has (λ d. eqb (G.group d) j) (eq i).cells c e) (G.column i j c (member j c e) ∙ u)))

  -- a solution is a row
  pub solution_row : (f : ℕ → Bool) → Solution eq f → Row (λ j. count f (G.members j))
  solution_row f s = record { small = λ j _. count_le f (G.members j); holds = λ i. rw (← grouped_count f i) (s i) }

  -- and each row has a solution: the first cells of each group are its mines
  pub row_solution : (k : ℕ → ℕ) → Row k → (f : ℕ → Bool) × Solution eq f × ((j : ℕ) → j < G.groups → count f (G.members j) ≡ k j)
  row_solution k r = (f, λ i. omega (arith, grouped_count f i, total_ext G.groups _ _ (λ j l. part i j l (G.uses i j)), r.holds i), fills)
    where
      f : ℕ → Bool
      f c = has (take (k (G.group c)) (G.members (G.group c))) c

      fills : (j : ℕ) → j < G.groups → count f (G.members j) ≡ k j
      fills j l =
          count_ext f (has (take (k j) (G.members j))) (G.members j) (λ c e. rw (G.group_of j c e))
          ∙ count_first (G.members j) (k j) (G.once j) (r.small j l)

      part : (i : ι) (j : ℕ) → j < G.groups → (x : Bool) → cond x (count f (G.members j)) 0 ≡ cond x (k j) 0
      part i j l true = fills j l
      part i j l false = refl

  -- ---- what the rows say of a cell

  -- the cells of a group have equal columns
  alike : (j a c : ℕ) → has (G.members j) a ≡ true → has (G.members j) c ≡ true → Alike eq a c
  alike j a c h k i =
      times_has a (eq i).cells (G.distinct i) ∙ ap bit (G.column i j a h ∙ sym (G.column i j c k)) ∙ sym (times_has c (eq i).cells (G.distinct i))

  module _ (j c : ℕ) (l : j < G.groups) (h : has (G.members j) c ≡ true) where
    -- what is known of the group's count in all solutions is known of it in all rows
    each_row : (v : Bool) (n : ℕ) → (((f : ℕ → Bool) → Solution eq f → f c ≡ v) ↔ ((f : ℕ → Bool) → Solution eq f → count f (G.members j) ≡ n))
        → ((f : ℕ → Bool) → Solution eq f → f c ≡ v) ↔ ((k : ℕ → ℕ) → Row k → k j ≡ n)
    each_row v n group = (
      λ s k r. let (f, t, w) = row_solution k r in sym (w j l) ∙ group.0 s f t,
      λ s. group.1 (λ f t. s (λ i. count f (G.members i)) (solution_row f t)),
    )

    -- a cell is safe in all solutions exactly when its group is 0 in every row
    pub row_safe : ((f : ℕ → Bool) → Solution eq f → f c ≡ false) ↔ ((k : ℕ → ℕ) → Row k → k j ≡ 0)
    row_safe = each_row false 0 (group_safe eq (G.members j) (alike j) c h)

    -- and a mine in all exactly when its group is full in every row
    pub row_mine : ((f : ℕ → Bool) → Solution eq f → f c ≡ true) ↔ ((k : ℕ → ℕ) → Row k → k j ≡ length (G.members j))
    row_mine = each_row true (length (G.members j)) (group_mine eq (G.members j) (alike j) c h)

    -- a row with a mine in the group gives a solution with a mine at the cell
    pub row_has_mine : (k : ℕ → ℕ) → Row k → k j ≢ 0 → (f : ℕ → Bool) × Solution eq f × (f c ≡ true)
    row_has_mine k r n = let (f, s, w) = row_solution k r in go f s (λ z. n (sym (w j l) ∙ z)) (decided (f c))
      where
        go : (f : ℕ → Bool) → Solution eq f → count f (G.members j) ≢ 0 → Decided (f c) → (g : ℕ → Bool) × Solution eq g × (g c ≡ true)
        go f s z (inl e) = (f, s, e)
        go f s z (inr e) = let (a, m, t) = some_passes f (G.members j) z in (move a c f, exchange eq f a c (alike j a c m h) t e s, rw (eq-eqb c c refl))
