-- `removed`: elements are taken out from the last to the first, and the last element moves into each gap. What is left is, but for its order, what a
-- plain filter leaves. Rests on Rearranged of the lists. Assumes nothing.
use mathlib.Core.Path.{◌≡◌, refl, sym, ◌∙◌}
use mathlib.Core.Bool.{Bool, true, false, not, cond, ◌&&◌}
use mathlib.Core.List.{List, [], ◌∷◌}
use Prim.Native.Nat.{ℕ, ◌+◌}
use native.Mathlib.Omega.{arith}
use Rattle.lists.specs.Lists.{keep, count, has, nodup, rotated}
use Rattle.lists.proofs.Members.{has_keep, nodup_keep}
use Rattle.lists.proofs.Counts.{count_split}
use Rattle.lists.proofs.Rearranged.{Rearranged, rearranged_has, rearranged_nodup, rotated_rearranged}
use Rattle.growth.specs.Growth.{removed}

module _ (f : ℕ → Bool) where
  -- what is left is what fails the test, in another order
  pub removed_rearranged : (l : List ℕ) → Rearranged (removed f l) (keep (λ x. not (f x)) l)
  removed_rearranged [] g = refl
  removed_rearranged (x ∷ l) g = go (f x) (removed_rearranged l g)
    where
      go : (t : Bool) → count g (removed f l) ≡ count g (keep (λ y. not (f y)) l)
          → count g (cond t (rotated (removed f l)) (x ∷ removed f l))
          ≡ count g (cond (not t) (x ∷ keep (λ y. not (f y)) l) (keep (λ y. not (f y)) l))
      go true ih = rotated_rearranged (removed f l) g ∙ ih
      go false ih = omega arith

  -- so it has the same members
  pub removed_has : (l : List ℕ) (c : ℕ) → has (removed f l) c ≡ (not (f c) && has l c)
  removed_has l c = rearranged_has (removed f l) (keep (λ x. not (f x)) l) (removed_rearranged l) c ∙ has_keep (λ x. not (f x)) l c

  -- none twice, if none was
  pub removed_nodup : (l : List ℕ) → nodup l ≡ true → nodup (removed f l) ≡ true
  removed_nodup l n =
      rearranged_nodup (keep (λ x. not (f x)) l) (removed f l) (λ g. sym (removed_rearranged l g)) (nodup_keep (λ x. not (f x)) l n)

  -- what passes and what is left are together the list
  pub removed_parts : (g : ℕ → Bool) (l : List ℕ) → count g (keep f l) + count g (removed f l) ≡ count g l
  removed_parts g l = omega (arith, count_split g f l, removed_rearranged l g)
