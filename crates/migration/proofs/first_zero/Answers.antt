-- `first_zero` meets its contract: the first place at which the closure answers true is that of the first 0. Assumes nothing.
use mathlib.Core.Path.{◌≡◌, refl}
use mathlib.Core.Bool.{Bool}
use mathlib.Core.List.{List}
use Prim.Native.Nat.{ℕ, suc, ◌+◌}
use native.Mathlib.Omega.{arith}
use lib.Dec.{eqb}
use borrow.Author.Rules.{rules}
use borrow.Author.Tests.{tests}
use Rattle.std.specs.List.{position_or_len}
use Rattle.std.proofs.lemmas.List.Recursion.{is_position_or_len}
use Rattle.std.proofs.lemmas.Iterator.{YieldsList-from_slice}
use Rattle.std.proofs.lemmas.Iterator.Search.{position_from_yields_List}
use Rattle.lists.specs.Lists.{first_place}
use Rattle.migration.proofs.first_zero.Goals as goal

placed : (f : ℕ → Bool) (l : List ℕ) → first_place f l ≡ position_or_len f l
placed f = is_position_or_len (first_place f) f refl (λ x l. let e : 1 + first_place f l ≡ suc (first_place f l) = omega arith in rw e)

pub returns : goal.returns
returns c =
    rw (placed (λ v. eqb v 0) c.args.cells.now)
    (position_from_yields_List (λ v. eqb v 0) _ _ _ c.position.ensures.ran (YieldsList-from_slice c.args.cells.now cc) (λ x b q k. search (rules, tests)))
