-- What specs/Calls.antt says of a call of any rule, from the equation that the call ensures. An accepted call hands on the lists of a rule that is sound at
-- the position: they are what stands at the front of the slices, and of what is marked. A refused call keeps all. And solve_enumerate is complete, since
-- enumeration is. Rests on Deductions, Soundness of the crate direct, Completeness of the crate enumeration and the laws of what is written. Assumes nothing.
use Rattle.std.specs.Prelude.{Result, Err, Ok}
use mathlib.Core.Path.{◌≡◌, refl, sym, ap, ◌∙◌}
use mathlib.Core.Logic.{inl, inr, ◌≢◌}
use mathlib.Core.Bool.{Bool, true, false}
use mathlib.Core.List.{List}
use Prim.Native.Nat.{ℕ, ◌≤◌, ◌<◌}
use native.Mathlib.Omega.{arith}
use lib.ListN.{length, get_or, take}
use lib.Seq.{sets, length-sets}
use Rattle.lists.specs.Lists.{has, nodup}
use Rattle.lists.proofs.Tests.{Decided, decided, clash}
use Rattle.lists.proofs.Members.{get_d_has}
use Rattle.lists.proofs.PlacesAndRanges.{mem_place}
use Rattle.lists.proofs.Unions.{has_mem}
use Rattle.grid.specs.Cells.{shows}
use Rattle.grid.specs.Window.{neighbours}
use Rattle.grid.proofs.Neighbours.{neighbours_nodup, neighbours_few}
use Rattle.refusals.specs.declared.Refusal.{Refusal}
use Rattle.refusals.specs.declared.Refusal.TheVariants.{Contradiction}
use Rattle.refusals.specs.Refusals.{Accepted, Tested, tested_number, refusal_number}
use Rattle.refusals.specs.Tests.{deduction_tested}
use Rattle.refusals.proofs.FirstFailure.{not_both}
use Rattle.refusals.proofs.RefusalNumbers.{refusal_numbered}
use Rattle.refusals.proofs.Accepted.{AcceptedDeduction, accepted_deduction}
use Rattle.fitting.specs.Layouts.{Fits}
use Rattle.fitting.proofs.Layouts.{on_board}
use Rattle.blocks.specs.BlockSets.{all_cells}
use Rattle.frontier.specs.Frontier.{frontier}
use Rattle.marks.specs.Written.{written}
use Rattle.marks.proofs.WrittenCells.{written_length, written_shows, written_elsewhere}
use Rattle.direct.specs.Found.{Found}
use Rattle.direct.proofs.Soundness.{SoundAt, listed_closed, listed_once, listed_few, listed_apart}
use Rattle.enumeration.proofs.Completeness.{enumeration_complete_at}
use Rattle.deductions.specs.Answers.{Seen, seen, safe_count, mine_count, refused, deduction_after_tests, deduction}
use Rattle.deductions.specs.Calls.{ListsTrue, OnlyMarked, AllKept, SoundCall, AmongFirst, CompleteCall}
use Rattle.deductions.specs.ByRule.{rule_on, CompleteBy}
use Rattle.deductions.specs.declared.Rule.{Rule}
use Rattle.deductions.specs.declared.Rule.TheVariants.{Direct, Minus, Enumerate}
use Rattle.deductions.specs.declared.answer.DeductionAnswer.{DeductionAnswer}
use Rattle.deductions.proofs.Handed.{after_contradiction, after_lists}
use Rattle.deductions.proofs.Deductions.{sound_on}
use Rattle.lists.proofs.Among.{Among}
use Rattle.lists.proofs.ReadBack.{front_taken, front_read, front_kept}

-- ---- one list

-- cells of the frontier stand at the front of what was lent, and n counts them
record AtFront (near : ℕ → List ℕ) (p l lent after : List ℕ) (n : ℕ) : Type 0 where
  pub among : Among l (all_cells (frontier near p))
  pub room : length p ≤ length lent
  pub counted : n ≡ length l
  pub stored : after ≡ sets lent 0 l

module _ {near : ℕ → List ℕ} {p l lent after : List ℕ} {n : ℕ} (a : AtFront near p l lent after n) where
  fits : length l ≤ length lent
  fits = omega (arith, a.room, listed_few near p l a.among)

  -- the first n are the list
  front_list : take n after ≡ l
  front_list = rw (a.counted, a.stored) (front_taken lent l fits)

  -- so each of them is a cell of it
  front_has : (i : ℕ) → i < n → has l (get_or after i 0) ≡ true
  front_has i h =
      let within : i < length l = omega (arith, a.counted) in
      rw (a.stored, front_read lent l fits i 0 within) (get_d_has l i 0 within)

  -- which was closed
  front_closed : (i : ℕ) → i < n → shows p (get_or after i 0) ≡ 10
  front_closed i h = listed_closed near p l a.among (get_or after i 0) (front_has i h)

  -- and so is on the board
  front_on_board : (i : ℕ) → i < n → get_or after i 0 < length p
  front_on_board i h = on_board p (get_or after i 0) (omega (arith, front_closed i h))

  -- and each cell of the list is one of them
  front_among : (c : ℕ) → has l c ≡ true → AmongFirst n after c
  front_among c h =
      let (i, within, is) = mem_place l 0 (has_mem l c h) in
      (i, omega (arith, a.counted), rw a.stored (front_read lent l fits i 0 within ∙ is))

  -- none stands twice
  front_once : nodup (take n after) ≡ true
  front_once = rw front_list (listed_once near p l a.among)

  -- and behind them stands what stood there
  behind_kept : (i : ℕ) → n ≤ i → get_or after i 0 ≡ get_or lent i 0
  behind_kept i h = rw a.stored (front_kept lent l fits i 0 (omega (arith, a.counted)))

  -- in as many entries
  front_length : length after ≡ length lent
  front_length = ap length a.stored ∙ length-sets lent 0 l

  -- of which no more are counted than there are
  counted_within : n ≤ length after
  counted_within = omega (arith, fits, a.counted, front_length)

-- ---- what the equation of a call says

-- the number that a caller sees
abbrev pub number_of : Seen → ℕ
number_of w = tested_number w.answer

-- the rule met no contradiction, and its lists are handed on
record Gave (f : Found) (p s m : List ℕ) (r : Result DeductionAnswer Refusal) (p' s' m' : List ℕ) : Type 0 where
  pub no_contradiction : f.contradiction ≡ false
  pub safe_count_lem : safe_count r ≡ length f.safe
  pub mine_count_lem : mine_count r ≡ length f.mines
  pub safe_list : s' ≡ sets s 0 f.safe
  pub mine_list : m' ≡ sets m 0 f.mines
  pub position : p' ≡ written 11 f.mines (written 12 f.safe p)

module _ (f : Found) (p s m : List ℕ) (r : Result DeductionAnswer Refusal) (p' s' m' : List ℕ) where
  -- it is accepted only where the tests accept and the rule meets no contradiction
  gave : (t : Tested) → seen r p' s' m' ≡ deduction_after_tests t f p s m → tested_number r ≡ 0 → (t ≡ Accepted) × Gave f p s m r p' s' m'
  gave (Err x) e z = refusal_numbered x (sym (ap number_of e) ∙ z)
  gave (Ok _) e z = (refl, go (decided f.contradiction))
    where
      go : Decided f.contradiction → Gave f p s m r p' s' m'
      go (inl k) = refusal_numbered Contradiction (sym (ap number_of (e ∙ after_contradiction f p s m k)) ∙ z)
      go (inr k) =
          let told = e ∙ after_lists f p s m k in
          record {
            no_contradiction = k;
            safe_count_lem = ap (λ (v : Seen). safe_count v.answer) told;
            mine_count_lem = ap (λ (v : Seen). mine_count v.answer) told;
            safe_list = ap (λ (v : Seen). v.safe) told;
            mine_list = ap (λ (v : Seen). v.mines) told;
            position = ap (λ (v : Seen). v.position) told;
          }

  -- a refusal is its name alone, whoever gives it, and the slices are as they were
  refused_some : (t : Tested) → seen r p' s' m' ≡ deduction_after_tests t f p s m → tested_number r ≢ 0 → (x : Refusal) × (seen r p' s' m' ≡ refused x p s m)
  refused_some (Err y) e n = (y, e)
  refused_some (Ok _) e n = go (decided f.contradiction)
    where
      go : Decided f.contradiction → (x : Refusal) × (seen r p' s' m' ≡ refused x p s m)
      go (inl k) = (Contradiction, e ∙ after_contradiction f p s m k)
      go (inr k) = absurd (n (ap number_of (e ∙ after_lists f p s m k)))

  -- and it is the refusal that the call answers
  pub refused_alone : (t : Tested) → seen r p' s' m' ≡ deduction_after_tests t f p s m → (x : Refusal) → r ≡ Err x → seen r p' s' m' ≡ refused x p s m
  refused_alone t e x a =
      let (y, alone) = refused_some t e (λ z. refusal_numbered x (sym (ap (λ (u : Result DeductionAnswer Refusal). tested_number u) a) ∙ z)) in
      let same : ◌≡◌ {A = Result DeductionAnswer Refusal} (Err x) (Err y) = sym a ∙ ap (λ (v : Seen). v.answer) alone in
      let is : y ≡ x = cc in
      rw is at alone

  -- so a number that is not 0 says that these are kept
  kept : (t : Tested) → seen r p' s' m' ≡ deduction_after_tests t f p s m → tested_number r ≢ 0 → AllKept p s m p' s' m'
  kept t e n =
      let (x, alone) = refused_some t e n in
      record {
        position_kept = ap (λ (v : Seen). v.position) alone;
        safe_kept = ap (λ (v : Seen). v.safe) alone;
        mines_kept = ap (λ (v : Seen). v.mines) alone;
      }

  -- the tests' refusal is the call's
  refused_by_tests : (t : Tested) → seen r p' s' m' ≡ deduction_after_tests t f p s m → (x : Refusal) → t ≡ Err x → tested_number r ≡ refusal_number x
  refused_by_tests (Err y) e x a = ap number_of e ∙ ap (λ (u : Tested). tested_number u) a
  refused_by_tests (Ok _) e x a = not_both Accepted x refl a

  -- and it is accepted where the tests accept and the rule meets no contradiction
  accepted : (t : Tested) → seen r p' s' m' ≡ deduction_after_tests t f p s m → t ≡ Accepted → f.contradiction ≡ false → tested_number r ≡ 0
  accepted (Err x) e a k = not_both (Err x) x a refl
  accepted (Ok _) e a k = ap number_of (e ∙ after_lists f p s m k)

-- ---- an accepted call of a rule that is sound

module _ (near : ℕ → List ℕ) (f : Found) (p s m : List ℕ) (r : Result DeductionAnswer Refusal) (p' s' m' : List ℕ)
    (sound : SoundAt near p f) (safe_room : length p ≤ length s) (mines_room : length p ≤ length m) (g : Gave f p s m r p' s' m') where
  -- where its lists stand
  safe_front : AtFront near p f.safe s s' (safe_count r)
  safe_front = record { among = sound.safe_among_lem; room = safe_room; counted = g.safe_count_lem; stored = g.safe_list }

  mines_front : AtFront near p f.mines m m' (mine_count r)
  mines_front = record { among = sound.mines_among_lem; room = mines_room; counted = g.mine_count_lem; stored = g.mine_list }

  -- they are true
  lists_are_true : ListsTrue near p (safe_count r) (mine_count r) s' m'
  lists_are_true = record {
    safe_within = counted_within safe_front;
    safe_closed = front_closed safe_front;
    safe_free = λ i h. sound.safe_free (get_or s' i 0) (front_has safe_front i h);
    safe_once = front_once safe_front;
    mines_within = counted_within mines_front;
    mines_closed = front_closed mines_front;
    mines_mined = λ i h. sound.mines_mined (get_or m' i 0) (front_has mines_front i h);
    mines_once = front_once mines_front;
  }

  -- the position with its safe cells marked
  abbrev safe_marked : List ℕ
  safe_marked = written 12 f.safe p

  -- a listed mine shows 11
  shows_mine : (i : ℕ) → i < mine_count r → shows p' (get_or m' i 0) ≡ 11
  shows_mine i h =
      rw g.position
      (written_shows 11 f.mines safe_marked (get_or m' i 0) (omega (arith, front_on_board mines_front i h, written_length 12 f.safe p)) (front_has mines_front i h))

  -- a listed safe cell that is none of the mines shows 12
  shows_safe : (i : ℕ) → i < safe_count r → has f.mines (get_or s' i 0) ≡ false → shows p' (get_or s' i 0) ≡ 12
  shows_safe i h n =
      let c = get_or s' i 0 in
      rw g.position (written_elsewhere 11 f.mines safe_marked c n ∙ written_shows 12 f.safe p c (front_on_board safe_front i h) (front_has safe_front i h))

  -- any other cell shows what it showed
  shows_same : (c : ℕ) → has f.safe c ≡ false → has f.mines c ≡ false → shows p' c ≡ shows p c
  shows_same c e n = rw g.position (written_elsewhere 11 f.mines safe_marked c n ∙ written_elsewhere 12 f.safe p c e)

  -- it marks only what it lists
  marks_only : OnlyMarked p s m (safe_count r) (mine_count r) p' s' m'
  marks_only = record {
    at_mines = shows_mine;
    at_safe = λ i h n. shows_safe i h (rw (front_list mines_front) at n);
    elsewhere = λ c e n. shows_same c (rw (front_list safe_front) at e) (rw (front_list mines_front) at n);
    position_length = ap length g.position ∙ written_length 11 f.mines safe_marked ∙ written_length 12 f.safe p;
    safe_kept = behind_kept safe_front;
    safe_length = front_length safe_front;
    mines_kept = behind_kept mines_front;
    mines_length = front_length mines_front;
  }

  -- and where some layout fits, each listed safe cell shows 12
  fitting_shows_safe : (layout : List Bool) → Fits near p layout → (i : ℕ) → i < safe_count r → shows p' (get_or s' i 0) ≡ 12
  fitting_shows_safe layout fit i h = shows_safe i h (apart (decided (has f.mines (get_or s' i 0))))
    where
      apart : Decided (has f.mines (get_or s' i 0)) → has f.mines (get_or s' i 0) ≡ false
      apart (inl e) = clash (has f.safe (get_or s' i 0)) (front_has safe_front i h) (listed_apart near p f sound layout fit (get_or s' i 0) e)
      apart (inr e) = e

-- ---- a call of any rule

module _ (rule : Rule) (edgeless : Bool) (rows columns : ℕ) (p s m : List ℕ) (r : Result DeductionAnswer Refusal) (p' s' m' : List ℕ)
    (call : seen r p' s' m' ≡ deduction (rule_on rule) edgeless rows columns p s m) where
  abbrev near : ℕ → List ℕ
  near = neighbours edgeless rows columns

  abbrev found : Found
  found = rule_on rule (frontier near p)

  abbrev tests : Tested
  tests = deduction_tested rows columns p (length s) (length m)

  -- what it is to be accepted
  module _ (a : tested_number r ≡ 0) where
    facts : AcceptedDeduction rows columns p (length s) (length m)
    facts = accepted_deduction rows columns p (length s) (length m) (gave found p s m r p' s' m' tests call a).0

    lists : Gave found p s m r p' s' m'
    lists = (gave found p s m r p' s' m' tests call a).1

    safe_room : length p ≤ length s
    safe_room = omega (arith, facts.position.board.whole, facts.safe_room)

    mines_room : length p ≤ length m
    mines_room = omega (arith, facts.position.board.whole, facts.mines_room)

  pub call_sound : SoundCall edgeless rows columns p s m (tested_number r) (safe_count r) (mine_count r) p' s' m'
  call_sound =
      let sound = sound_on rule edgeless rows columns p in
      record {
        lists_true = λ z. lists_are_true near found p s m r p' s' m' sound (safe_room z) (mines_room z) (lists z);
        only_marked = λ z. marks_only near found p s m r p' s' m' sound (safe_room z) (mines_room z) (lists z);
        at_safe = λ z. fitting_shows_safe near found p s m r p' s' m' sound (safe_room z) (mines_room z) (lists z);
        all_kept = kept found p s m r p' s' m' tests call;
        refuses = refused_by_tests found p s m r p' s' m' tests call;
        accepts = λ t layout fit. accepted found p s m r p' s' m' tests call t (sound.no_contradiction layout fit);
      }

-- ---- a call of enumeration, where some layout fits

module _ (edgeless : Bool) (rows columns : ℕ) (p s m : List ℕ) (r : Result DeductionAnswer Refusal) (p' s' m' : List ℕ) where
  enumerate_call_complete : seen r p' s' m' ≡ deduction (rule_on Enumerate) edgeless rows columns p s m → deduction_tested rows columns p (length s) (length m) ≡ Accepted
      → (layout : List Bool) → Fits (neighbours edgeless rows columns) p layout
      → CompleteCall (neighbours edgeless rows columns) p (tested_number r) (safe_count r) (mine_count r) s' m'
  enumerate_call_complete call tests layout fit =
      let near = neighbours edgeless rows columns in
      let f = rule_on Enumerate (frontier near p) in
      let sound = sound_on Enumerate edgeless rows columns p in
      let whole = enumeration_complete_at near (neighbours_nodup edgeless rows columns) (neighbours_few edgeless rows columns) p layout fit in
      let a = accepted f p s m r p' s' m' (deduction_tested rows columns p (length s) (length m)) call tests (sound.no_contradiction layout fit) in
      let safe_room = safe_room Enumerate edgeless rows columns p s m r p' s' m' call a in
      let mines_room = mines_room Enumerate edgeless rows columns p s m r p' s' m' call a in
      let g = lists Enumerate edgeless rows columns p s m r p' s' m' call a in
      record {
        is_accepted = a;
        safe_found = λ c d closed is_open beside free.
            front_among (safe_front near f p s m r p' s' m' sound safe_room mines_room g) c (whole.safe_found c d closed is_open beside free);
        mines_found = λ c d closed is_open beside mined.
            front_among (mines_front near f p s m r p' s' m' sound safe_room mines_room g) c (whole.mines_found c d closed is_open beside mined);
      }

  pub call_complete : (rule : Rule) → seen r p' s' m' ≡ deduction (rule_on rule) edgeless rows columns p s m
      → CompleteBy rule edgeless rows columns p s m (tested_number r) (safe_count r) (mine_count r) s' m'
  call_complete Direct call = tt
  call_complete Minus call = tt
  call_complete Enumerate call = enumerate_call_complete call
