-- The first cells of some cells, with one cell more. It is like one first cell and like no other, so that group has one cell more; or it is like none, and
-- begins a group of one. And two tests that agree on the cells have the same first cells. Rests on what first cells are, `FirstOf`. Assumes nothing.
use mathlib.Core.Path.{◌≡◌, refl, sym, ap, ◌∙◌}
use mathlib.Core.Logic.{◌≢◌}
use mathlib.Core.Bool.{Bool, true, false, cond}
use mathlib.Core.List.{List, [], ◌∷◌, ◌++◌, map, map-append}
use Prim.Native.Nat.{ℕ, ◌+◌, ◌<◌}
use native.Mathlib.Omega.{arith}
use lib.ListN.{length, get_or, set, length-append}
use Rattle.lists.specs.Lists.{bit, keep, any, all, has, first_place}
use Rattle.lists.proofs.Members.{get_d_has}
use Rattle.lists.proofs.Counts.{any_at, any_of, count_zero, length_keep}
use Rattle.lists.proofs.All.{all_head, all_tail, all_has, all_push}
use Rattle.lists.proofs.Kept.{keep_append, any_ext}
use Rattle.lists.proofs.FirstPlaces.{first_within, first_passes}
use Rattle.lists.proofs.Joined.{map_ext}
use Rattle.lists.proofs.PassingElements.{not_passes}
use Rattle.lists.proofs.PlacesAndRanges.{map_read, set_mapped, nodup_place}
use Rattle.groups.specs.Groups.{add_firsts}
use Rattle.groups.proofs.FirstsOfClasses.{Equivalence, FirstOf, firsts_of}

-- ---- cells added one after another

module _ (like : ℕ → ℕ → Bool) where
  add_firsts_append : (l k r : List ℕ) → add_firsts like l (k ++ r) ≡ add_firsts like (add_firsts like l k) r
  add_firsts_append l [] r = refl
  add_firsts_append l (c ∷ k) r = add_firsts_append (cond (any (like c) l) l (l ++ (c ∷ []))) k r

  -- one cell more
  pub firsts_there : (cells : List ℕ) (c : ℕ) → any (like c) (add_firsts like [] cells) ≡ true → add_firsts like [] (cells ++ (c ∷ [])) ≡ add_firsts like [] cells
  firsts_there cells c h = add_firsts_append [] cells (c ∷ []) ∙ rw h

  pub firsts_new : (cells : List ℕ) (c : ℕ) → any (like c) (add_firsts like [] cells) ≡ false
      → add_firsts like [] (cells ++ (c ∷ [])) ≡ add_firsts like [] cells ++ (c ∷ [])
  firsts_new cells c h = add_firsts_append [] cells (c ∷ []) ∙ rw h

-- two tests that agree on the numbers that pass a third
module _ (on : ℕ → Bool) (like other : ℕ → ℕ → Bool) (agree : (c d : ℕ) → on c ≡ true → on d ≡ true → like c d ≡ other c d) where
  add_firsts_ext : (l cells : List ℕ) → all on l ≡ true → all on cells ≡ true → add_firsts like l cells ≡ add_firsts other l cells
  add_firsts_ext l [] a b = refl
  add_firsts_ext l (c ∷ cells) a b =
      let here : on c ≡ true = all_head on c cells b in
      let same : any (like c) l ≡ any (other c) l = any_ext (like c) (other c) l (λ d e. agree c d here (all_has on l a d e)) in
      rw same (go (any (other c) l) (add_firsts_ext l cells a (all_tail on c cells b)) (add_firsts_ext (l ++ (c ∷ [])) cells (all_push on l c a here) (all_tail on c cells b)))
    where
      go : (t : Bool) → add_firsts like l cells ≡ add_firsts other l cells → add_firsts like (l ++ (c ∷ [])) cells ≡ add_firsts other (l ++ (c ∷ [])) cells
          → add_firsts like (cond t l (l ++ (c ∷ []))) cells ≡ add_firsts other (cond t l (l ++ (c ∷ []))) cells
      go true there new = there
      go false there new = new

  pub firsts_ext : (cells : List ℕ) → all on cells ≡ true → add_firsts like [] cells ≡ add_firsts other [] cells
  firsts_ext cells h = add_firsts_ext [] cells refl h

-- ---- one cell more

-- how many of some cells are like a cell
abbrev pub alikes : (ℕ → ℕ → Bool) → List ℕ → ℕ → ℕ
alikes like cells c = length (keep (like c) cells)

alikes_push : (like : ℕ → ℕ → Bool) (cells : List ℕ) (c f : ℕ) → alikes like (cells ++ (c ∷ [])) f ≡ alikes like cells f + bit (like f c)
alikes_push like cells c f =
    ap length (keep_append (like f) cells (c ∷ [])) ∙ length-append (keep (like f) cells) (keep (like f) (c ∷ [])) ∙ ap (λ (n : ℕ). alikes like cells f + n) (one (like f c))
  where
    one : (t : Bool) → length (cond t (c ∷ []) []) ≡ bit t
    one true = refl
    one false = refl

module _ {like : ℕ → ℕ → Bool} (same : Equivalence like) (cells : List ℕ) (c : ℕ) where
  abbrev fs : List ℕ
  fs = add_firsts like [] cells

  found : FirstOf like cells fs
  found = firsts_of like same cells

  abbrev more : List ℕ
  more = cells ++ (c ∷ [])

  -- ---- a cell that is like a first cell

  module _ (there : any (like c) fs ≡ true) where
    abbrev g : ℕ
    g = first_place (like c) fs

    inside : g < length fs
    inside = first_within (like c) fs there

    -- it is like that one, and like no other
    like_own : like c (get_or fs g 0) ≡ true
    like_own = first_passes (like c) fs 0 there

    like_other : (i : ℕ) → i < length fs → i ≢ g → like (get_or fs i 0) c ≡ false
    like_other i u other = not_passes (like (get_or fs i 0) c) false (λ e. absurd (other (nodup_place fs found.once i g 0 u inside (equal e)))) refl
      where
        equal : like (get_or fs i 0) c ≡ true → get_or fs i 0 ≡ get_or fs g 0
        equal e = found.unlike (get_or fs i 0) (get_or fs g 0) (get_d_has fs i 0 u) (get_d_has fs g 0 inside) (same.transitive (get_or fs i 0) c (get_or fs g 0) e like_own)

    pub sizes_there : set (map (alikes like cells) fs) g (get_or (map (alikes like cells) fs) g 0 + 1) ≡ map (alikes like more) fs
    sizes_there =
        set_mapped (alikes like cells) (alikes like more) fs g (get_or (map (alikes like cells) fs) g 0 + 1) inside
        (rw (map_read (alikes like cells) fs g 0 0 inside) (sym (alikes_push like cells c (get_or fs g 0) ∙ rw (same.symmetric c (get_or fs g 0) like_own))))
        (λ i v other. sym (alikes_push like cells c (get_or fs i 0) ∙ rw (like_other i v other) (omega arith)))

  -- ---- a cell that is like none

  module _ (none : any (like c) fs ≡ false) where
    unlike : (f : ℕ) → has fs f ≡ true → like c f ≡ false
    unlike f h = not_passes (like c f) (any (like c) fs) (any_of (like c) fs f h) none

    like_none : (f : ℕ) → has fs f ≡ true → like f c ≡ false
    like_none f h = not_passes (like f c) (like c f) (same.symmetric f c) (unlike f h)

    -- no other cell is like it
    alone : alikes like cells c ≡ 0
    alone = length_keep (like c) cells ∙ count_zero (like c) cells apart
      where
        apart : (d : ℕ) → has cells d ≡ true → like c d ≡ false
        apart d h = let (f, m, w) = any_at (like d) fs (found.covered d h) in not_passes (like c d) (like c f) (λ e. same.transitive c d f e w) (unlike f m)

    pub sizes_new : map (alikes like cells) fs ++ (1 ∷ []) ≡ map (alikes like more) (fs ++ (c ∷ []))
    sizes_new =
        let old : map (alikes like cells) fs ≡ map (alikes like more) fs =
        map_ext (alikes like cells) (alikes like more) fs (λ f h. sym (alikes_push like cells c f ∙ rw (like_none f h) (omega arith))) in
        let new : 1 ≡ alikes like more c = sym (alikes_push like cells c c ∙ rw (same.reflexive c, alone)) in
        rw (old, new) (sym (map-append (alikes like more) fs (c ∷ [])))
