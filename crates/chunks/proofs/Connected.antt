-- Cells connected by equations. A look only adds cells, and a look that adds some takes one equation more into the list, so that as many looks as there are
-- equations leave a list that is closed: an equation that has a cell of it lies in it. What begins apart from a closed list stays apart from it, so two cells
-- are connected either way round or not at all. Rests on the laws of `add_new` and of counts. Assumes nothing.
use mathlib.Core.Path.{◌≡◌, refl, sym, ap, ◌∙◌}
use mathlib.Core.Logic.{◌⊎◌, inl, inr}
use mathlib.Core.Bool.{Bool, true, false, cond}
use mathlib.Core.List.Memᴰ
use mathlib.Core.List.{List, [], ◌∷◌, Memᴰ}
use Prim.Native.Nat.{ℕ, zero, suc, ◌+◌, ◌≤◌}
use native.Mathlib.Omega.{arith}
use lib.Dec.{eqb}
use lib.ListN.{length}
use borrow.Author.Tests.{eqb-true}
use Rattle.lists.specs.Lists.{any, all, count, has, meets, add_new}
use Rattle.lists.proofs.Tests.{Decided, decided, clash, or_cases, or_left, or_right}
use Rattle.lists.proofs.Counts.{any_at, any_of}
use Rattle.lists.proofs.Unions.{has_add_new}
use Rattle.lists.proofs.AddNew.{add_new_none}
use Rattle.lists.proofs.Sharing.{Apart, Within, all_within, within_all, meets_apart}
use Rattle.lists.proofs.CountsAlike.{counts_grow, counts_full}
use Rattle.blocks.specs.Blocks.{BlockEquation}
use Rattle.chunks.specs.Chunks.{widened, connected}

-- ---- words

-- an equation that has a cell of the list has all its cells there
abbrev pub Closed : List BlockEquation → List ℕ → Type 0
Closed es l = (e : BlockEquation) → Memᴰ e es → meets e.cells l ≡ true → all (has l) e.cells ≡ true

-- the last cell is joined to the first by a chain of equations, each of which has the cell before and the cell behind it
pub data Chain (es : List BlockEquation) (c : ℕ) : ℕ → Type 0 where
  here : Chain es c c
  next : {d : ℕ} (a : ℕ) (e : BlockEquation) → Chain es c a → Memᴰ e es → has e.cells a ≡ true → has e.cells d ≡ true → Chain es c d

-- a cell stands in some equation
abbrev pub in_equation : List BlockEquation → ℕ → Bool
in_equation es c = any (λ (e : BlockEquation). has e.cells c) es

-- ---- cells added

added : (l k : List ℕ) (c : ℕ) → has (add_new l k) c ≡ true → (has l c ≡ true) ⊎ (has k c ≡ true)
added l k c h = or_cases (has l c) (has k c) (sym (has_add_new l k c) ∙ h)

added_left : (l k : List ℕ) → Within l (add_new l k)
added_left l k c h = has_add_new l k c ∙ or_left (has l c) (has k c) h

added_right : (l k : List ℕ) → Within k (add_new l k)
added_right l k c h = has_add_new l k c ∙ or_right (has l c) (has k c) h

-- ---- one look

-- what holds of the list, and of the list with an equation's cells added wherever the equation has a cell of it, holds after a look
widened_keeps_all : (P : List ℕ → Type 0) (es : List BlockEquation) (l : List ℕ)
    → ((k : List ℕ) (e : BlockEquation) → P k → Memᴰ e es → meets e.cells k ≡ true → P (add_new k e.cells)) → P l → P (widened es l)
widened_keeps_all P [] l step h = h
widened_keeps_all P (e ∷ es) l step h =
    widened_keeps_all P es (cond (meets e.cells l) (add_new l e.cells) l) (λ k x p m. step k x p (Memᴰ.tail m)) (go (decided (meets e.cells l)))
  where
    go : Decided (meets e.cells l) → P (cond (meets e.cells l) (add_new l e.cells) l)
    go (inl t) = rw t (step l e h (Memᴰ.head refl) t)
    go (inr t) = rw t h

pub connected_keeps_all : (P : List ℕ → Type 0) (es : List BlockEquation) (n : ℕ) (l : List ℕ)
    → ((k : List ℕ) (e : BlockEquation) → P k → Memᴰ e es → meets e.cells k ≡ true → P (add_new k e.cells)) → P l → P (connected es n l)
connected_keeps_all P es zero l step h = h
connected_keeps_all P es (suc n) l step h = connected_keeps_all P es n (widened es l) step (widened_keeps_all P es l step h)

-- a look only adds
pub widened_adds : (es : List BlockEquation) (l : List ℕ) → Within l (widened es l)
widened_adds es l c h =
    widened_keeps_all (λ k. has k c ≡ true) es l (λ k e p m t. added_left k e.cells c p) h

pub connected_adds : (es : List BlockEquation) (n : ℕ) (l : List ℕ) → Within l (connected es n l)
connected_adds es n l c h = connected_keeps_all (λ k. has k c ≡ true) es n l (λ k e p m t. added_left k e.cells c p) h

-- a list that one look leaves unchanged stays unchanged
pub connected_stays : (es : List BlockEquation) (n : ℕ) (l : List ℕ) → widened es l ≡ l → connected es n l ≡ l
connected_stays es zero l h = refl
connected_stays es (suc n) l h = ap (connected es n) h ∙ connected_stays es n l h

-- where no equation has a cell of the list, a look leaves it unchanged
pub widened_none : (es : List BlockEquation) (l : List ℕ) → ((e : BlockEquation) → Memᴰ e es → meets e.cells l ≡ false) → widened es l ≡ l
widened_none [] l h = refl
widened_none (e ∷ es) l h = rw (h e (Memᴰ.head refl)) (widened_none es l (λ x m. h x (Memᴰ.tail m)))

-- ---- closed after as many looks as there are equations

-- the equation lies in the list
abbrev lies : List ℕ → BlockEquation → Bool
lies l e = all (has l) e.cells

lies_within : (k l : List ℕ) → Within k l → (e : BlockEquation) → lies k e ≡ true → lies l e ≡ true
lies_within k l h e t = within_all e.cells l (λ c m. h c (all_within e.cells k t c m))

-- a look that leaves a list unchanged finds it closed; any other takes in an equation
pub look : (es : List BlockEquation) (l : List ℕ)
    → ((widened es l ≡ l) × Closed es l) ⊎ ((e : BlockEquation) × Memᴰ e es × (lies l e ≡ false) × (lies (widened es l) e ≡ true))
look [] l = inl (refl, λ e m t. absurd (Memᴰ.not-nil m))
look (e ∷ es) l = go (decided (meets e.cells l)) (decided (lies l e)) (look es l)
  where
    Grown : List BlockEquation → Type 0
    Grown xs = (x : BlockEquation) × Memᴰ x xs × (lies l x ≡ false) × (lies (widened xs l) x ≡ true)

    closed : (meets e.cells l ≡ true → lies l e ≡ true) → Closed es l → Closed (e ∷ es) l
    closed own rest x m t = at (Memᴰ.cases_cons m)
      where
        at : (x ≡ e) ⊎ Memᴰ x es → lies l x ≡ true
        at (inl w) = rw w (own (rw w at t))
        at (inr k) = rest x k t

    -- the equation leaves the list unchanged
    same : cond (meets e.cells l) (add_new l e.cells) l ≡ l → (meets e.cells l ≡ true → lies l e ≡ true) → ((widened es l ≡ l) × Closed es l) ⊎ Grown es
        → ((widened (e ∷ es) l ≡ l) × Closed (e ∷ es) l) ⊎ Grown (e ∷ es)
    same w own (inl (u, k)) = inl (ap (widened es) w ∙ u, closed own k)
    same w own (inr (x, m, a, b)) = inr (x, Memᴰ.tail m, a, ap (λ (k : List ℕ). lies (widened es k) x) w ∙ b)

    go : Decided (meets e.cells l) → Decided (lies l e) → ((widened es l ≡ l) × Closed es l) ⊎ Grown es → ((widened (e ∷ es) l ≡ l) × Closed (e ∷ es) l) ⊎ Grown (e ∷ es)
    go (inr t) d ih = same (rw t) (λ u. clash (meets e.cells l) u t) ih
    go (inl t) (inl d) ih = same (rw t (add_new_none l e.cells d)) (λ u. d) ih
    go (inl t) (inr d) ih =
        inr (
          e,
          Memᴰ.head refl,
          d,
          rw t (within_all e.cells (widened es (add_new l e.cells)) (λ c m. widened_adds es (add_new l e.cells) c (added_right l e.cells c m))),
        )

-- n looks end at a closed list, or take in n equations
looks : (es : List BlockEquation) (n : ℕ) (l : List ℕ) → Closed es (connected es n l) ⊎ (n + count (lies l) es ≤ count (lies (connected es n l)) es)
looks es zero l = inr (omega arith)
looks es (suc n) l = go (look es l) (looks es n (widened es l))
  where
    go : ((widened es l ≡ l) × Closed es l) ⊎ ((e : BlockEquation) × Memᴰ e es × (lies l e ≡ false) × (lies (widened es l) e ≡ true))
        → Closed es (connected es n (widened es l)) ⊎ (n + count (lies (widened es l)) es ≤ count (lies (connected es n (widened es l))) es)
        → Closed es (connected es (suc n) l) ⊎ (suc n + count (lies l) es ≤ count (lies (connected es (suc n) l)) es)
    go (inl (w, k)) ih = inl (rw (connected_stays es (suc n) l w) k)
    go (inr (e, m, a, b)) (inl k) = inl k
    go (inr (e, m, a, b)) (inr k) = inr (omega (arith, counts_grow (lies l) (lies (widened es l)) (lies_within l (widened es l) (widened_adds es l)) es m a b))

pub connected_closed : (es : List BlockEquation) (l : List ℕ) → Closed es (connected es (length es) l)
connected_closed es l = go (looks es (length es) l)
  where
    go : Closed es (connected es (length es) l) ⊎ (length es + count (lies l) es ≤ count (lies (connected es (length es) l)) es) → Closed es (connected es (length es) l)
    go (inl k) = k
    go (inr h) = λ e m t. counts_full (lies (connected es (length es) l)) es (omega arith) m

-- ---- closed lists

-- what lies in a closed list, or apart from it, stays so
pub connected_within : (es : List BlockEquation) (n : ℕ) (l k : List ℕ) → Closed es k → Within l k → Within (connected es n l) k
connected_within es n l k closed h = connected_keeps_all (λ x. Within x k) es n l step h
  where
    step : (x : List ℕ) (e : BlockEquation) → Within x k → Memᴰ e es → meets e.cells x ≡ true → Within (add_new x e.cells) k
    step x e w m t c u = go (added x e.cells c u)
      where
        go : (has x c ≡ true) ⊎ (has e.cells c ≡ true) → has k c ≡ true
        go (inl i) = w c i
        go (inr i) =
            let (d, a, b) = any_at (has x) e.cells t in
            all_within e.cells k (closed e m (any_of (has k) e.cells d a (w d b))) c i

pub connected_apart : (es : List BlockEquation) (n : ℕ) (l k : List ℕ) → Closed es k → Apart l k → Apart (connected es n l) k
connected_apart es n l k closed h = connected_keeps_all (λ x. Apart x k) es n l step h
  where
    step : (x : List ℕ) (e : BlockEquation) → Apart x k → Memᴰ e es → meets e.cells x ≡ true → Apart (add_new x e.cells) k
    step x e w m t c u = go (added x e.cells c u)
      where
        free : meets e.cells k ≡ false
        free = at (decided (meets e.cells k))
          where
            at : Decided (meets e.cells k) → meets e.cells k ≡ false
            at (inl i) =
                let (d, a, b) = any_at (has x) e.cells t in
                clash (has k d) (all_within e.cells k (closed e m i) d a) (w d b)
            at (inr i) = i

        go : (has x c ≡ true) ⊎ (has e.cells c ≡ true) → has k c ≡ false
        go (inl i) = w c i
        go (inr i) = meets_apart e.cells k free c i

-- ---- chains

-- everything that is connected with a cell is joined to it
pub connected_chain : (es : List BlockEquation) (n c d : ℕ) → has (connected es n (c ∷ [])) d ≡ true → Chain es c d
connected_chain es n c = connected_keeps_all (λ l. (d : ℕ) → has l d ≡ true → Chain es c d) es n (c ∷ []) step first
  where
    first : (d : ℕ) → has (c ∷ []) d ≡ true → Chain es c d
    first d h = go (or_cases (eqb d c) false h)
      where
        go : (eqb d c ≡ true) ⊎ (false ≡ true) → Chain es c d
        go (inl e) = rw (eqb-true d c e) here
        go (inr e) = clash false e refl

    step : (l : List ℕ) (e : BlockEquation) → ((d : ℕ) → has l d ≡ true → Chain es c d) → Memᴰ e es → meets e.cells l ≡ true
        → (d : ℕ) → has (add_new l e.cells) d ≡ true → Chain es c d
    step l e w m t d u = go (added l e.cells d u)
      where
        go : (has l d ≡ true) ⊎ (has e.cells d ≡ true) → Chain es c d
        go (inl i) = w d i
        go (inr i) = let (x, a, b) = any_at (has l) e.cells t in next x e (w x b) m a i

-- and the other way round: a closed list that has a cell has all that are joined to it
pub chain_connected : (es : List BlockEquation) (l : List ℕ) {c d : ℕ} → Closed es l → has l c ≡ true → Chain es c d → has l d ≡ true
chain_connected es l closed h here = h
chain_connected es l {d = d} closed h (next a e k m u v) =
    all_within e.cells l (closed e m (any_of (has l) e.cells a u (chain_connected es l closed h k))) d v

pub chain_joined : (es : List BlockEquation) {c d x : ℕ} → Chain es c d → Chain es d x → Chain es c x
chain_joined es k here = k
chain_joined es k (next a e r m u v) = next a e (chain_joined es k r) m u v

pub chain_turned : (es : List BlockEquation) {c d : ℕ} → Chain es c d → Chain es d c
chain_turned es here = here
chain_turned es {d = d} (next a e r m u v) = chain_joined es (next d e here m v u) (chain_turned es r)
