-- The states of a walk: the one that it begins with, and the one after a value that is possible. Two states of one place with one key need the same: an equation
-- that is begun and not finished has its digit in the key, any other needs what it did at first, or nothing. Rests on Keys. Assumes nothing.
use mathlib.Core.Path.{◌≡◌, refl, sym, ap, ◌∙◌}
use mathlib.Core.Logic.{inl, inr}
use mathlib.Core.Bool.{true, cond, ◌&&◌}
use mathlib.Core.List.{List}
use Prim.Native.Nat.{ℕ, zero, suc, ◌+◌, ◌-◌, ◌≤◌, ◌<◌}
use native.Mathlib.Omega.{arith}
use native.Mathlib.Decide.{dec_lt}
use lib.Dec.{ltb, leb}
use lib.ListN.{get_or}
use lib.Seq.{ext_get_or}
use borrow.Author.Tests.{lt-ltb, leb-true}
use Rattle.lists.specs.Lists.{range, has}
use Rattle.lists.proofs.Tests.{Decided, decided, and_left, and_right}
use Rattle.lists.proofs.Members.{has_keep, in_range}
use Rattle.lists.proofs.All.{all_has}
use Rattle.grid.specs.declared.window.UpToEight.{UpToEight}
use Rattle.blocks.specs.BlockSets.{slot_cells}
use Rattle.search.specs.Trees.{lowered}
use Rattle.search.specs.Searching.{State}
use Rattle.search.proofs.TreeLaws.{lowered_read}
use Rattle.search.proofs.Lowering.{takes}
use Rattle.search.proofs.TakenValues.{places, Taken, taken_once, taken_column, taken_state}
use Rattle.counting.specs.States.{open_equations, key_of, Course, Underway}
use Rattle.counting.proofs.Keys.{digits_same}

-- ---- where a walk begins

module _ (order : List ℕ) (groups : ℕ) (sizes columns : List ℕ) (begun : ℕ) (needs rooms : List ℕ) where
  -- the room after so many groups more
  rooms_after : ℕ → List ℕ
  rooms_after zero = rooms
  rooms_after (suc k) = lowered (get_or sizes (get_or order (begun + k) 0) 0) (slot_cells columns (get_or order (begun + k) 0)) (rooms_after k)

  pub course_from : Course order groups sizes columns rooms
  unfolding rooms_after
  course_from = record {
    begun = begun;
    start_needs = needs;
    rooms_at = λ at. rooms_after (at - begun);
    next = λ at h l.
        let one : at + 1 - begun ≡ suc (at - begun) = omega arith in
        let same : begun + (at - begun) ≡ at = omega arith in
        ap rooms_after one ∙ ap (λ (n : ℕ). lowered (get_or sizes (get_or order n 0) 0) (slot_cells columns (get_or order n 0)) (rooms_after (at - begun))) same;
  }

  pub underway_start : (equations : ℕ) → State equations needs rooms → Underway course_from equations begun needs rooms
  unfolding course_from rooms_after
  underway_start equations s = record {
    past = omega arith;
    state = s;
    room = ap rooms_after (let w : 0 ≡ begun - begun = omega arith in w);
    less = λ e. omega arith;
    unbegun = λ e h. refl;
    finished = λ e z h. absurd (omega arith);
  }

module _ {order : List ℕ} {groups : ℕ} {sizes columns start_rooms : List ℕ} (c : Course order groups sizes columns start_rooms) {equations at : ℕ} where
  -- ---- a value that is possible

  module _ {needs rooms : List ℕ} (u : Underway c equations at needs rooms) {g v to : ℕ} {list : UpToEight} (k : Taken order groups equations sizes columns at g needs rooms v to list)
      (fits : to ≤ get_or sizes g 0) {needs_below rooms_below : List ℕ} (low_needs : needs_below ≡ lowered v (places list) needs) (low_rooms : rooms_below ≡ lowered (get_or sizes g 0) (places list) rooms) where
    need : (e : ℕ) → get_or needs_below e 0 ≡ get_or needs e 0 - cond (has (places list) e) v 0
    need e = ap (λ (l : List ℕ). get_or l e 0) low_needs ∙ lowered_read v (places list) needs e (taken_once k)

    room : (e : ℕ) → get_or rooms_below e 0 ≡ get_or rooms e 0 - cond (has (places list) e) (get_or sizes g 0) 0
    room e = ap (λ (l : List ℕ). get_or l e 0) low_rooms ∙ lowered_read (get_or sizes g 0) (places list) rooms e (taken_once k)

    -- an equation of the group can take the value
    can : (e : ℕ) → has (places list) e ≡ true → (v ≤ get_or needs e 0) × (get_or needs e 0 + get_or sizes g 0 ≤ v + get_or rooms e 0)
    can e h =
        let t : takes (get_or sizes g 0) needs rooms v e ≡ true = all_has (takes (get_or sizes g 0) needs rooms v) (places list) k.can e h in (
          leb-true v (get_or needs e 0) (and_left _ (leb (get_or needs e 0 + get_or sizes g 0) (v + get_or rooms e 0)) t),
          leb-true (get_or needs e 0 + get_or sizes g 0) (v + get_or rooms e 0) (and_right (leb v (get_or needs e 0)) _ t),
        )

    pub underway_next : Underway c equations (at + 1) needs_below rooms_below
    underway_next = record {
      past = omega (arith, u.past);
      state = taken_state k low_needs low_rooms;
      room = low_rooms ∙ ap (λ (l : List ℕ). lowered (get_or sizes g 0) (places list) l) u.room
          ∙ ap (λ (l : List ℕ). lowered (get_or sizes g 0) l (c.rooms_at at)) (taken_column k)
          ∙ ap (λ (x : ℕ). lowered (get_or sizes x 0) (slot_cells columns x) (c.rooms_at at)) k.here.is
          ∙ sym (c.next at u.past k.here.inside);
      less = λ e. omega (arith, room e, u.less e);
      unbegun = λ e h. unbegun e (decided (has (places list) e)) h;
      finished = λ e z h. finished e (decided (has (places list) e)) z h;
    }
      where
        unbegun : (e : ℕ) → Decided (has (places list) e) → get_or rooms_below e 0 ≡ get_or start_rooms e 0 → get_or needs_below e 0 ≡ get_or c.start_needs e 0
        unbegun e (inl h) w =
            let r : get_or rooms_below e 0 ≡ get_or rooms e 0 - get_or sizes g 0 = rw h at (room e) in
            let n : get_or needs_below e 0 ≡ get_or needs e 0 - v = rw h at (need e) in
            let (a, b) = can e h in
            let still : get_or rooms e 0 ≡ get_or start_rooms e 0 = omega (arith, u.less e, r, w, a, b) in
            omega (arith, u.unbegun e still, n, r, w, a, b, u.less e, k.within, fits)
        unbegun e (inr h) w =
            let r : get_or rooms_below e 0 ≡ get_or rooms e 0 - 0 = rw h at (room e) in
            let n : get_or needs_below e 0 ≡ get_or needs e 0 - 0 = rw h at (need e) in
            let still : get_or rooms e 0 ≡ get_or start_rooms e 0 = omega (arith, r, w) in
            omega (arith, u.unbegun e still, n)

        finished : (e : ℕ) → Decided (has (places list) e) → get_or rooms_below e 0 ≡ 0 → 0 < get_or start_rooms e 0 → get_or needs_below e 0 ≡ 0
        finished e (inl h) z s =
            let r : get_or rooms_below e 0 ≡ get_or rooms e 0 - get_or sizes g 0 = rw h at (room e) in
            let n : get_or needs_below e 0 ≡ get_or needs e 0 - v = rw h at (need e) in
            let (a, b) = can e h in
            omega (arith, r, n, a, b, z)
        finished e (inr h) z s =
            let r : get_or rooms_below e 0 ≡ get_or rooms e 0 - 0 = rw h at (room e) in
            let n : get_or needs_below e 0 ≡ get_or needs e 0 - 0 = rw h at (need e) in
            let none : get_or rooms e 0 ≡ 0 = omega (arith, r, z) in
            omega (arith, u.finished e none s, n)

  -- ---- one key, one state

  module _ {needs other rooms : List ℕ} (u : Underway c equations at needs rooms) (w : Underway c equations at other rooms)
      (one : key_of equations needs rooms start_rooms ≡ key_of equations other rooms start_rooms) where
    open_same : (e : ℕ) → has (open_equations equations rooms start_rooms) e ≡ true → get_or needs e 0 ≡ get_or other e 0
    unfolding key_of
    open_same = (digits_same needs other u.state.needs_small w.state.needs_small (open_equations equations rooms start_rooms) 0 0 one).1

    pub key_tells : needs ≡ other
    key_tells = ext_get_or 0 needs other (u.state.whole_needs ∙ sym w.state.whole_needs) (λ e h. at_equation e (dec_lt e equations))
      where
        begun_equation : (e : ℕ) → e < equations → Dec (get_or rooms e 0 < get_or start_rooms e 0) → Dec (0 < get_or rooms e 0) → get_or needs e 0 ≡ get_or other e 0
        begun_equation e l (yes a) (yes b) =
            open_same e
            (has_keep (λ d. ltb 0 (get_or rooms d 0) && ltb (get_or rooms d 0) (get_or start_rooms d 0)) (range 0 equations) e
            ∙ rw (lt-ltb 0 (get_or rooms e 0) b, lt-ltb (get_or rooms e 0) (get_or start_rooms e 0) a) (in_range 0 equations e (omega arith) (omega arith)))
        begun_equation e l (yes a) (no b) =
            let z : get_or rooms e 0 ≡ 0 = omega arith in
            u.finished e z (omega arith) ∙ sym (w.finished e z (omega arith))
        begun_equation e l (no a) b =
            let s : get_or rooms e 0 ≡ get_or start_rooms e 0 = omega (arith, u.less e) in
            u.unbegun e s ∙ sym (w.unbegun e s)

        at_equation : (e : ℕ) → Dec (e < equations) → get_or needs e 0 ≡ get_or other e 0
        at_equation e (yes l) = begun_equation e l (dec_lt (get_or rooms e 0) (get_or start_rooms e 0)) (dec_lt 0 (get_or rooms e 0))
        at_equation e (no l) = u.state.past e (omega arith) ∙ sym (w.state.past e (omega arith))
