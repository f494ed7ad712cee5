-- The groups of some cells as the code has them in three arrays, and of one cell more, which joins the first group whose first cell is like it, or begins
-- a group. A group's size is at most that of the whole group, of the cells still to come too. Rests on the laws of first cells. Assumes nothing.
use mathlib.Core.Path.{◌≡◌, refl, sym, ap, ◌∙◌}
use mathlib.Core.Logic.{inl, inr, ◌≢◌}
use mathlib.Core.Bool.{Bool, true, false, cond}
use mathlib.Core.List.{List, [], ◌∷◌, ◌++◌, map}
use Prim.Native.Nat.{ℕ, zero, suc, ◌+◌, ◌≤◌, ◌<◌}
use native.Mathlib.Decide.{dec_lt}
use native.Mathlib.Omega.{arith}
use lib.Dec.{leb, ltb}
use lib.ListN.{length, get_or, set, take, replicate, length-append, length-map, get_or-eq_default}
use borrow.Author.Tests.{leb-true, lt-ltb, le-ltb}
use Rattle.lists.specs.Lists.{range, count, any, all, has, first_place, pad}
use Rattle.lists.proofs.Tests.{Decided, decided}
use Rattle.lists.proofs.All.{all_has, has_all}
use Rattle.lists.proofs.Members.{has_append, get_d_has}
use Rattle.lists.proofs.Counts.{count_append, length_keep}
use Rattle.lists.proofs.FirstPlaces.{first_within_any, first_place_within, first_place_front, first_place_behind, first_place_ext}
use Rattle.lists.proofs.Arrays.{pad_nil, pad_take, pad_read, pad_set, pad_push, length_pad}
use Rattle.lists.proofs.Joined.{map_ext}
use Rattle.lists.proofs.Kept.{keep_ext}
use Rattle.lists.proofs.Rearranged.{length_range}
use Rattle.lists.proofs.Unions.{last_own, last_other}
use Rattle.lists.proofs.PlacesAndRanges.{map_read, set_mapped, range_read}
use Rattle.groups.specs.Groups.{add_firsts}
use Rattle.groups.specs.Combining.{GroupsAre}
use Rattle.groups.proofs.FirstsOfClasses.{Equivalence, FirstOf, first_met_lem, firsts_of}
use Rattle.groups.proofs.GrownFirsts.{firsts_there, firsts_new, firsts_ext, alikes, sizes_there, sizes_new}

-- the group of a cell, given the cells and the first cells
abbrev group_in : (ℕ → ℕ → Bool) → List ℕ → List ℕ → ℕ → ℕ
group_in like cells firsts c = cond (has cells c) (first_place (like c) firsts) 0

-- no cells have no groups
pub groups_none : (like : ℕ → ℕ → Bool) (firsts sizes group_of : List ℕ) → firsts ≡ replicate 1024 0 → sizes ≡ replicate 1024 0 → group_of ≡ replicate 1024 0
    → GroupsAre like [] 0 firsts sizes group_of
groups_none like firsts sizes group_of a b c =
    record { counted = refl; first_cells = a ∙ pad_nil 1024 0; cells_each = b ∙ pad_nil 1024 0; of_cell = c ∙ zeros 0 1024 }
  where
    zeros : (a k : ℕ) → replicate {A = ℕ} k 0 ≡ map (λ (d : ℕ). 0) (range a k)
    zeros a zero = refl
    zeros a (suc k) = ap (λ (l : List ℕ). 0 ∷ l) (zeros (suc a) k)

module _ {like : ℕ → ℕ → Bool} (same : Equivalence like) {cells : List ℕ} {n : ℕ} {firsts sizes group_of : List ℕ} (r : GroupsAre like cells n firsts sizes group_of) where
  abbrev fs : List ℕ
  fs = add_firsts like [] cells

  found : FirstOf like cells fs
  found = firsts_of like same cells

  pub groups_firsts : take n firsts ≡ fs
  groups_firsts = rw (r.counted, r.first_cells) (pad_take 1024 0 fs)

  pub groups_few : n ≤ length cells
  groups_few = omega (arith, r.counted, found.few)

  pub groups_long : length cells ≤ 1024 → length firsts ≡ 1024
  groups_long few = rw r.first_cells (length_pad 1024 0 fs (omega (arith, found.few)))

  -- the first cells are on the board
  pub groups_below : all (λ c. ltb c 1024) cells ≡ true → all (λ c. ltb c 1024) (take n firsts) ≡ true
  groups_below below =
      rw groups_firsts (has_all (λ c. ltb c 1024) fs (λ c e. all_has (λ d. ltb d 1024) cells below c (first_met_lem like same found c e)))

  -- a group is no larger than in the end
  pub groups_small : (rest : List ℕ) → all (λ c. leb (count (like c) (cells ++ rest)) 8) (cells ++ rest) ≡ true → (g : ℕ) → get_or sizes g 0 ≤ 8
  groups_small rest few g = rw (r.cells_each, pad_read 1024 0 (map (alikes like cells) fs) g) (go (dec_lt g (length fs)))
    where
      go : Dec (g < length fs) → get_or (map (alikes like cells) fs) g 0 ≤ 8
      go (yes u) =
          let f = get_or fs g 0 in
          let inside : has cells f ≡ true = first_met_lem like same found f (get_d_has fs g 0 u) in
          let there : has (cells ++ rest) f ≡ true = has_append cells rest f ∙ rw inside in
          rw (map_read (alikes like cells) fs g 0 0 u)
          (omega (
            arith,
            length_keep (like f) cells,
            count_append (like f) cells rest,
            leb-true (count (like f) (cells ++ rest)) 8 (all_has (λ c. leb (count (like c) (cells ++ rest)) 8) (cells ++ rest) few f there),
          ))
      go (no u) = omega (arith, get_or-eq_default (map (alikes like cells) fs) 0 {n = g} (omega (arith, length-map fs (alikes like cells))))

  -- ---- one cell more

  module _ (c g : ℕ) (on : c < 1024) (at : g ≡ first_place (like c) (take n firsts)) where
    abbrev more : List ℕ
    more = cells ++ (c ∷ [])

    place : g ≡ first_place (like c) fs
    place = at ∙ ap (first_place (like c)) groups_firsts

    pub groups_within : g ≤ n
    groups_within = omega (arith, r.counted, place, first_place_within (like c) fs)

    -- the group of a cell changes only for this one
    of_more : (gs : List ℕ) → first_place (like c) gs ≡ g → ((d : ℕ) → has cells d ≡ true → first_place (like d) gs ≡ first_place (like d) fs)
        → set group_of c g ≡ map (group_in like more gs) (range 0 1024)
    of_more gs own others =
        rw r.of_cell
        (set_mapped (group_in like cells fs) (group_in like more gs) (range 0 1024) c g (omega (arith, length_range 0 1024))
        (rw (range_read 0 1024 c 0 on) (here (0 + c) (omega arith)))
        (λ k u other. rw (range_read 0 1024 k 0 (omega (arith, length_range 0 1024))) (elsewhere (0 + k) (λ e. other (omega arith)))))
      where
        here : (d : ℕ) → d ≡ c → g ≡ group_in like more gs d
        here d e = rw (e, last_own cells c) (sym own)

        elsewhere : (d : ℕ) → d ≢ c → group_in like cells fs d ≡ group_in like more gs d
        elsewhere d other = go (decided (has cells d))
          where
            go : Decided (has cells d) → group_in like cells fs d ≡ group_in like more gs d
            go (inl a) = rw (last_other cells c d other, a) (sym (others d a))
            go (inr a) = rw (last_other cells c d other, a)

    abbrev counts : List ℕ
    counts = map (alikes like cells) fs

    -- it is like a first cell
    pub groups_there : g ≢ n → GroupsAre like more n firsts (set sizes g (get_or sizes g 0 + 1)) (set group_of c g)
    groups_there other =
        let u : first_place (like c) fs < length fs = omega (arith, r.counted, place, groups_within) in
        let there : any (like c) fs ≡ true = sym (first_within_any (like c) fs) ∙ lt-ltb (first_place (like c) fs) (length fs) u in
        let still : fs ≡ add_firsts like [] more = sym (firsts_there like cells c there) in
        let grown : set sizes g (get_or sizes g 0 + 1) ≡ pad 1024 0 (set counts g (get_or counts g 0 + 1)) =
        rw (r.cells_each, pad_read 1024 0 counts g) (pad_set 1024 0 counts g (get_or counts g 0 + 1) (omega (arith, place, length-map fs (alikes like cells)))) in
        let sized : set counts g (get_or counts g 0 + 1) ≡ map (alikes like more) fs = rw place (sizes_there same cells c there) in
        record {
          counted = r.counted ∙ ap length still;
          first_cells = r.first_cells ∙ ap (pad 1024 0) still;
          cells_each = grown ∙ ap (pad 1024 0) sized ∙ ap (λ (l : List ℕ). pad 1024 0 (map (alikes like more) l)) still;
          of_cell = of_more fs (sym place) (λ d h. refl) ∙ ap (λ (l : List ℕ). map (group_in like more l) (range 0 1024)) still;
        }

    -- it is like none
    pub groups_new : g ≡ n → n < 1024 → GroupsAre like more (n + 1) (set firsts n c) (set sizes g (get_or sizes g 0 + 1)) (set group_of c g)
    groups_new end room =
        let none : any (like c) fs ≡ false = sym (first_within_any (like c) fs) ∙ le-ltb (first_place (like c) fs) (length fs) (omega (arith, r.counted, place)) in
        let next : fs ++ (c ∷ []) ≡ add_firsts like [] more = sym (firsts_new like cells c none) in
        let long : g ≡ length counts = omega (arith, r.counted, length-map fs (alikes like cells)) in
        let unread : get_or counts g 0 ≡ 0 = get_or-eq_default counts 0 {n = g} (omega arith) in
        let grown : set sizes g (get_or sizes g 0 + 1) ≡ pad 1024 0 (counts ++ (1 ∷ [])) =
        rw (r.cells_each, pad_read 1024 0 counts g, unread, long) (pad_push 1024 0 counts 1 (omega arith)) in
        record {
          counted = omega (arith, r.counted, length-append fs (c ∷ []), ap length next);
          first_cells = rw (r.first_cells, r.counted) (pad_push 1024 0 fs c (omega (arith, r.counted))) ∙ ap (pad 1024 0) next;
          cells_each = grown ∙ ap (pad 1024 0) (sizes_new same cells c none) ∙ ap (λ (l : List ℕ). pad 1024 0 (map (alikes like more) l)) next;
          of_cell = of_more (fs ++ (c ∷ [])) (first_place_behind (like c) fs (c ∷ []) none ∙ rw (same.reflexive c) (omega (arith, r.counted)))
              (λ d h. first_place_front (like d) fs (c ∷ []) (found.covered d h))
              ∙ ap (λ (l : List ℕ). map (group_in like more l) (range 0 1024)) next;
        }

-- ---- by another test that agrees on the cells

module _ (on : ℕ → Bool) {like : ℕ → ℕ → Bool} (same : Equivalence like) (other : ℕ → ℕ → Bool) (agree : (c d : ℕ) → on c ≡ true → on d ≡ true → like c d ≡ other c d)
    (cells : List ℕ) (all_on : all on cells ≡ true) where
  abbrev those : List ℕ
  those = add_firsts like [] cells

  on_first : (c : ℕ) → has those c ≡ true → on c ≡ true
  on_first c e = all_has on cells all_on c (first_met_lem like same (firsts_of like same cells) c e)

  firsts_same : those ≡ add_firsts other [] cells
  firsts_same = firsts_ext on like other agree cells all_on

  sizes_same : map (alikes like cells) those ≡ map (alikes other cells) (add_firsts other [] cells)
  sizes_same =
      map_ext (alikes like cells) (alikes other cells) those
      (λ c e. ap length (keep_ext (like c) (other c) cells (λ d w. agree c d (on_first c e) (all_has on cells all_on d w))))
      ∙ ap (map (alikes other cells)) firsts_same

  group_same : (c : ℕ) → group_in like cells those c ≡ group_in other cells (add_firsts other [] cells) c
  group_same c = go (decided (has cells c))
    where
      go : Decided (has cells c) → group_in like cells those c ≡ group_in other cells (add_firsts other [] cells) c
      go (inl e) =
          rw e (first_place_ext (like c) (other c) those (λ d w. agree c d (all_has on cells all_on c e) (on_first d w)) ∙ ap (first_place (other c)) firsts_same)
      go (inr e) = rw e

  pub groups_ext : {n : ℕ} {firsts sizes group_of : List ℕ} → GroupsAre like cells n firsts sizes group_of → GroupsAre other cells n firsts sizes group_of
  groups_ext r =
      record {
        counted = r.counted ∙ ap length firsts_same;
        first_cells = r.first_cells ∙ ap (pad 1024 0) firsts_same;
        cells_each = r.cells_each ∙ ap (pad 1024 0) sizes_same;
        of_cell = r.of_cell ∙ map_ext (group_in like cells those) (group_in other cells (add_firsts other [] cells)) (range 0 1024) (λ c e. group_same c);
      }
