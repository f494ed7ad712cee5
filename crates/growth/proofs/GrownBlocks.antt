-- `grow`: how a block's sources are found from the first one. The sources found and those left over are all there were, none lost and none twice; the
-- bound on the steps is never met; at the end no source left over shares a closed cell with one found, and each one found is joined to the first by a
-- chain of sources found, of which each shares a closed cell with the next. Rests on Removal. Assumes nothing.
use mathlib.Core.Path.{◌≡◌, refl, sym, ap, ◌∙◌}
use mathlib.Core.Logic.{◌⊎◌, inl, inr}
use mathlib.Core.Bool.{Bool, true, false, not, ◌&&◌}
use mathlib.Core.List.{List, [], ◌∷◌, ◌++◌, reverse, append_assoc, append-nil}
use Prim.Native.Nat.{ℕ, zero, suc, ◌+◌, ◌≤◌}
use native.Mathlib.Omega.{arith}
use lib.ListN.{length}
use borrow.Author.Tests.{not-true}
use Rattle.lists.specs.Lists.{keep, count, has}
use Rattle.lists.proofs.Tests.{clash, and_left, and_right, or_right}
use Rattle.lists.proofs.Members.{has_head, has_tail, has_append, kept_passes}
use Rattle.lists.proofs.Counts.{count_append}
use Rattle.lists.proofs.Unions.{append_cases, last_cases}
use Rattle.lists.proofs.Rearranged.{Rearranged, count_all, rearranged_has, reverse_rearranged}
use Rattle.sources.specs.Sources.{shares}
use Rattle.growth.specs.Growth.{removed, grow}
use Rattle.growth.proofs.Removal.{removed_has, removed_parts}

-- no source of the one list shares a closed cell with a source of the other
abbrev pub Apart : (ℕ → List ℕ) → List ℕ → List ℕ → List ℕ → Type 0
Apart near p k l = (a b : ℕ) → has k a ≡ true → has l b ≡ true → shares near p a b ≡ false

-- joined within the list l: a source is joined to itself, and to each source of l that shares a closed cell with one that it is joined to
pub data Joined (near : ℕ → List ℕ) (p l : List ℕ) (a : ℕ) : ℕ → Type 0 where
  self : Joined near p l a a
  through : {b c : ℕ} → Joined near p l a b → has l c ≡ true → shares near p b c ≡ true → Joined near p l a c

module _ (near : ℕ → List ℕ) (p : List ℕ) where
  -- the sources that join the queue when c is done
  abbrev fresh : ℕ → List ℕ → List ℕ
  fresh c left = reverse (keep (shares near p c) left)

  fresh_shares : (c : ℕ) (left : List ℕ) (b : ℕ) → has (fresh c left) b ≡ true → shares near p c b ≡ true
  fresh_shares c left b h =
      kept_passes (shares near p c) left b
      (sym (rearranged_has (fresh c left) (keep (shares near p c) left) (reverse_rearranged (keep (shares near p c) left)) b) ∙ h)

  -- and those that stay
  abbrev rest : ℕ → List ℕ → List ℕ
  rest c left = removed (shares near p c) left

  -- a step changes no count of the queue and the sources left, but for the source done
  step_counts : (f : ℕ → Bool) (c : ℕ) (queue left : List ℕ)
      → count f (queue ++ fresh c left) + count f (rest c left) ≡ count f queue + count f left
  step_counts f c queue left =
      omega (arith, count_append f queue (fresh c left), reverse_rearranged (keep (shares near p c) left) f, removed_parts (shares near p c) f left)

  step_length : (c : ℕ) (queue left : List ℕ) → length (queue ++ fresh c left) + length (rest c left) ≡ length queue + length left
  step_length c queue left =
      omega (
        arith,
        step_counts (λ _. true) c queue left,
        count_all (queue ++ fresh c left),
        count_all (rest c left),
        count_all queue,
        count_all left,
      )

  -- every test counts in the sources found and left over as in those at the beginning
  pub grow_counts : (f : ℕ → Bool) (k : ℕ) (done queue left : List ℕ)
      → count f (grow (shares near p) k done queue left).found + count f (grow (shares near p) k done queue left).left ≡ count f done + (count f queue + count f left)
  grow_counts f zero done queue left = omega (arith, count_append f done queue)
  grow_counts f (suc k) done [] left = omega arith
  grow_counts f (suc k) done (c ∷ queue) left =
      omega (
        arith,
        grow_counts f k (done ++ (c ∷ [])) (queue ++ fresh c left) (rest c left),
        count_append f done (c ∷ []),
        step_counts f c queue left,
      )

  -- so the sources found and left over are those at the beginning, in another order
  pub grow_rearranged : (k : ℕ) (done queue left : List ℕ)
      → Rearranged ((grow (shares near p) k done queue left).found ++ (grow (shares near p) k done queue left).left) (done ++ (queue ++ left))
  grow_rearranged k done queue left f =
      omega (
        arith,
        grow_counts f k done queue left,
        count_append f (grow (shares near p) k done queue left).found (grow (shares near p) k done queue left).left,
        count_append f done (queue ++ left),
        count_append f queue left,
      )

  -- the sources found begin with those done and the queue, in order
  pub grow_begins : (k : ℕ) (done queue left : List ℕ) → (more : List ℕ) × ((grow (shares near p) k done queue left).found ≡ done ++ (queue ++ more))
  grow_begins zero done queue left = ([], ap (λ (l : List ℕ). done ++ l) (sym (append-nil queue)))
  grow_begins (suc k) done [] left = ([], sym (append-nil done))
  grow_begins (suc k) done (c ∷ queue) left =
      let (more, e) = grow_begins k (done ++ (c ∷ [])) (queue ++ fresh c left) (rest c left) in
      (fresh c left ++ more, e ∙ simp append_assoc)

  -- so each source of the queue is found
  grow_finds : (k : ℕ) (done queue left : List ℕ) (b : ℕ) → has queue b ≡ true → has (grow (shares near p) k done queue left).found b ≡ true
  grow_finds k done queue left b h = let (more, e) = grow_begins k done queue left in
      rw (e, has_append done (queue ++ more) b, has_append queue more b, h) (or_right (has done b) true refl)

  -- with a step for each source of the queue and each left, a greater bound changes nothing: it is never met
  pub grow_enough : (k : ℕ) (done queue left : List ℕ) → length queue + length left ≤ k
      → grow (shares near p) (suc k) done queue left ≡ grow (shares near p) k done queue left
  grow_enough zero done [] left h = ap (λ (l : List ℕ). record { found = l; left = left }) (sym (append-nil done))
  grow_enough zero done (c ∷ queue) left h = absurd (omega arith)
  grow_enough (suc k) done [] left h = refl
  grow_enough (suc k) done (c ∷ queue) left h =
      grow_enough k (done ++ (c ∷ [])) (queue ++ fresh c left) (rest c left) (omega (arith, step_length c queue left))

  -- no source left over shares with one found, if none left shared with one done at the beginning
  pub grow_apart : (k : ℕ) (done queue left : List ℕ) → length queue + length left ≤ k → Apart near p done left
      → Apart near p (grow (shares near p) k done queue left).found (grow (shares near p) k done queue left).left
  grow_apart zero done queue [] h w = λ a b x y. clash false y refl
  grow_apart zero done queue (c ∷ left) h w = absurd (omega arith)
  grow_apart (suc k) done [] left h w = w
  grow_apart (suc k) done (c ∷ queue) left h w =
      grow_apart k (done ++ (c ∷ [])) (queue ++ fresh c left) (rest c left) (omega (arith, step_length c queue left))
      (λ a b x y. go a b (last_cases done c a x) (sym (removed_has (shares near p c) left b) ∙ y))
    where
      go : (a b : ℕ) → (has done a ≡ true) ⊎ (a ≡ c) → (not (shares near p c b) && has left b) ≡ true → shares near p a b ≡ false
      go a b (inl x) y = w a b x (and_right (not (shares near p c b)) (has left b) y)
      go a b (inr e) y = rw e (not-true _ (and_left (not (shares near p c b)) (has left b) y))

  -- each source found is joined to a within those found, if each one done or in the queue is
  pub grow_joined : (l : List ℕ) (a k : ℕ) (done queue left : List ℕ)
      → ((b : ℕ) → has (grow (shares near p) k done queue left).found b ≡ true → has l b ≡ true)
      → ((b : ℕ) → has done b ≡ true → Joined near p l a b) → ((b : ℕ) → has queue b ≡ true → Joined near p l a b)
      → (b : ℕ) → has (grow (shares near p) k done queue left).found b ≡ true → Joined near p l a b
  grow_joined l a zero done queue left w d q = λ b h. go b (append_cases done queue b h)
    where
      go : (b : ℕ) → (has done b ≡ true) ⊎ (has queue b ≡ true) → Joined near p l a b
      go b (inl x) = d b x
      go b (inr x) = q b x
  grow_joined l a (suc k) done [] left w d q = d
  grow_joined l a (suc k) done (c ∷ queue) left w d q =
      grow_joined l a k (done ++ (c ∷ [])) (queue ++ fresh c left) (rest c left) w
      (λ b h. before b (last_cases done c b h)) (λ b h. after b h (append_cases queue (fresh c left) b h))
    where
      before : (b : ℕ) → (has done b ≡ true) ⊎ (b ≡ c) → Joined near p l a b
      before b (inl x) = d b x
      before b (inr e) = rw e (q c (has_head c queue))

      after : (b : ℕ) → has (queue ++ fresh c left) b ≡ true → (has queue b ≡ true) ⊎ (has (fresh c left) b ≡ true) → Joined near p l a b
      after b h (inl x) = q b (has_tail c queue b x)
      after b h (inr x) =
          through (q c (has_head c queue)) (w b (grow_finds k (done ++ (c ∷ [])) (queue ++ fresh c left) (rest c left) b h)) (fresh_shares c left b x)
