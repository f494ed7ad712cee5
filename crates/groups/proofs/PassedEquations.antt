-- Equations between two places with one more at the end, and what the code keeps of the equations passed so far: what each needs, how many cells it has,
-- and whether a remainder is negative. Rests on the laws of an array with a count. Assumes nothing.
use mathlib.Core.Path.{◌≡◌, refl, sym, ap, ◌∙◌}
use mathlib.Core.Bool.{Bool, ◌||◌}
use mathlib.Core.List.{List, [], ◌∷◌, ◌++◌, map, map-append}
use Prim.Native.Nat.{ℕ, suc, ◌+◌, ◌-◌, ◌≤◌, ◌<◌}
use native.Mathlib.Omega.{arith}
use lib.Dec.{ltb}
use lib.ListN.{length, get_or, set, take, drop, replicate, length-map}
use Rattle.std.specs.List.{list_any}
use Rattle.lists.specs.Lists.{range, any, pad}
use Rattle.lists.proofs.Arrays.{pad_nil, pad_push}
use Rattle.lists.proofs.Members.{range_last}
use Rattle.lists.proofs.Rearranged.{length_range}
use Rattle.lists.proofs.Joined.{read_range}
use Rattle.lists.proofs.PassingElements.{any_map}
use Rattle.blocks.specs.Blocks.{BlockEquation}
use Rattle.blocks.specs.Places.{equations_from}
use Rattle.blocks.proofs.Between.{equation_of, equations_none}

-- ---- one place more

-- the places from a up to e, and e
range_next : (a e : ℕ) → a ≤ e → range a (e + 1 - a) ≡ range a (e - a) ++ (e ∷ [])
range_next a e h =
    let more : e + 1 - a ≡ suc (e - a) = omega arith in
    let last : a + (e - a) ≡ e = omega arith in
    rw (more, range_last a (e - a), last)

module _ (slots rests : List ℕ) (first e : ℕ) where
  pub length_equations : length (equations_from slots rests first e) ≡ e - first
  unfolding equations_from
  length_equations = length-map (range first (e - first)) (equation_of slots rests) ∙ length_range first (e - first)

  pub equations_next : first ≤ e → equations_from slots rests first (e + 1) ≡ equations_from slots rests first e ++ (equation_of slots rests e ∷ [])
  unfolding equations_from
  equations_next h = ap (map (equation_of slots rests)) (range_next first e h) ∙ map-append (equation_of slots rests) (range first (e - first)) (e ∷ [])

-- ---- what is kept of equations

-- what an equation needs, how many cells it has, and whether its remainder is negative
abbrev pub need_of : BlockEquation → ℕ
need_of e = e.rest - 8

abbrev pub room_of : BlockEquation → ℕ
room_of e = length e.cells

abbrev pub is_negative : BlockEquation → Bool
is_negative e = ltb e.rest 8

-- a number of each equation passed so far, by its place among them
pub passed_none : (f : BlockEquation → ℕ) (slots rests numbers : List ℕ) (first : ℕ) → numbers ≡ replicate 1024 0 → numbers ≡ pad 1024 0 (map f (equations_from slots rests first first))
passed_none f slots rests numbers first a = rw (equations_none slots rests first first (omega arith)) (a ∙ pad_nil 1024 0)

pub passed_next : (f : BlockEquation → ℕ) (slots rests numbers : List ℕ) (first e x : ℕ) → first ≤ e → e < 1024 → numbers ≡ pad 1024 0 (map f (equations_from slots rests first e))
    → x ≡ f (equation_of slots rests e) → set numbers (e - first) x ≡ pad 1024 0 (map f (equations_from slots rests first (e + 1)))
passed_next f slots rests numbers first e x h room so_far is =
    let l = equations_from slots rests first e in
    let long : e - first ≡ length (map f l) = sym (length-map l f ∙ length_equations slots rests first e) in
    rw (so_far, is, long)
    (pad_push 1024 0 (map f l) (f (equation_of slots rests e)) (omega arith)
    ∙ ap (pad 1024 0) (sym (map-append f l (equation_of slots rests e ∷ [])) ∙ ap (map f) (sym (equations_next slots rests first e h))))

-- the library's word for `any`
same_any : (f : ℕ → Bool) (l : List ℕ) → list_any f l ≡ any f l
same_any f [] = refl
same_any f (x ∷ l) = ap (λ (t : Bool). f x || t) (same_any f l)

-- is a remainder negative? It is told by the remainders between two places
pub negative_from : (slots rests : List ℕ) (first end : ℕ) → end ≤ length rests → first ≤ end
    → list_any (λ r. ltb r 8) (take (end - first) (drop first rests)) ≡ any is_negative (equations_from slots rests first end)
unfolding equations_from
negative_from slots rests first end h k =
    same_any (λ r. ltb r 8) (take (end - first) (drop first rests))
    ∙ ap (any (λ r. ltb r 8)) (sym (read_range rests 0 first (end - first) (omega arith)))
    ∙ any_map (λ r. ltb r 8) (λ (e : ℕ). get_or rests e 0) (range first (end - first))
    ∙ sym (any_map is_negative (equation_of slots rests) (range first (end - first)))
