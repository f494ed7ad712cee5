-- `groups::same_columns` meets its contract. Rests on the turns of `ComparedColumns`. Assumes nothing.
use Prim.Native.Nat.{ℕ, ◌<◌}
use mathlib.Core.Path.{◌≡◌, refl, ◌∙◌}
use native.Mathlib.Omega.{arith}
use lib.ListN.{length, get_or}
use borrow.Author.Rules.{rules}
use Rattle.std.proofs.lemmas.List.{length_push}
use Rattle.std.proofs.lemmas.Slice.Zip.{zip_turn, zip_end}
use Rattle.groups.proofs.ComparedColumns.{lent, length_lent, lent_alike, same_from_last, same_from_differs, same_from_filler, same_from_next}
use Rattle.groups.proofs.same_columns.Goals as goal
use Rattle.groups.proofs.same_columns.Goals.{In-Some}

pub loop-own-init : goal.loop-own-init
loop-own-init c = refl

-- the next slots of both columns
turn : (c : In-Some)
    → (let left = lent c.args.columns.now c.args.a in
    let right = lent c.args.columns.now c.args.b in
    let k = length c.loop-own.yielded in
    (k < length left) × (k < length right) × ((d : ℕ) → c.in-Some.field-0-0.now ≡ get_or left k d) × ((d : ℕ) → c.in-Some.field-0-1.now ≡ get_or right k d))
turn c =
    zip_turn (lent c.args.columns.now c.args.a) (lent c.args.columns.now c.args.b) c.loop-own.yielded c.into_iter-own-iterator.result c.loop-own.own-iterator c.next.new.self _ (cc) (cc) c.loop-own.yielded_by _ c.in-Some.is c.next.ensures.steps

pub returns-then-own-other : goal.returns-then-own-other
returns-then-own-other c =
    let t = turn (goal.at.returns-then-own-other c).In-Some in
    same_from_differs _ _ _ c.loop-own.invariant _ _ t.0 t.1 (t.2 _) (t.3 _) c.if-own-other.true ∙ lent_alike c.args.columns.now c.args.a c.args.b

pub returns-then-own : goal.returns-then-own
returns-then-own c =
    let t = turn (goal.at.returns-then-own c).In-Some in
    same_from_filler _ _ _ c.loop-own.invariant _ _ t.0 t.1 (t.2 _) (t.3 _) c.if-own-other.false c.if-own.true ∙ lent_alike c.args.columns.now c.args.a c.args.b

pub loop-own-preserved : goal.loop-own-preserved
loop-own-preserved c =
    let t = turn (goal.at.loop-own-preserved c).In-Some in
    rw length_push (same_from_next _ _ _ c.loop-own.invariant _ _ t.0 t.1 (t.2 _) (t.3 _) c.if-own-other.false c.if-own.false)

pub returns : goal.returns
returns c =
    let left = lent c.args.columns.now c.args.a in
    let right = lent c.args.columns.now c.args.b in
    let whole : length c.args.columns.now ≡ 8192 = search rules in
    let one = length_lent c.args.columns.now c.args.a whole c.requires.0 in
    let two = length_lent c.args.columns.now c.args.b whole c.requires.1 in
    let all = zip_end left right c.loop-own.yielded c.into_iter-own-iterator.result c.loop-own.own-iterator c.next.new.self _ (cc) (cc) c.loop-own.yielded_by c.in-None.is c.next.ensures.steps in
    same_from_last left right (length c.loop-own.yielded) c.loop-own.invariant (omega arith) (omega arith) ∙ lent_alike c.args.columns.now c.args.a c.args.b
