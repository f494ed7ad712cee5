-- A line by its first numbers, which are read two at a time: rows and columns, then the start's row and column where there is one. Where two numbers are missing
-- the line is unreadable; else it is what they make of the cells behind them. Rests on the laws of a line's words. Assumes nothing.
use mathlib.Core.Path.{◌≡◌, refl, ◌∙◌}
use mathlib.Core.Bool.{Bool, true, false}
use mathlib.Core.List.{List, [], ◌∷◌}
use Prim.Native.Nat.{ℕ}
use Rattle.std.specs.Prelude.{Option, Some, None}
use Rattle.text.specs.declared.Word.{Word}
use Rattle.text.specs.declared.Word.TheVariants.{Number, End, Other}
use Rattle.text.specs.Text.{word_at}
use Rattle.lines.specs.declared.Pair.{Pair}
use Rattle.lines.specs.declared.Line.{Line}
use Rattle.lines.specs.Lines.{number_before, numbers_at, pair_with, pair_after, pair_at, with_cells, line_from, line_of, start_from, start_line_of}
use Rattle.lines.proofs.Words.{numbers_more, numbers_end, numbers_other}

-- ---- two numbers

-- a list of fewer than two
abbrev fewer_than_two : List ℕ → Bool
fewer_than_two [] = true
fewer_than_two (n ∷ []) = true
fewer_than_two (n ∷ m ∷ l) = false

-- the numbers are fewer than two, or unreadable
abbrev short : Option (List ℕ) → Bool
short None = true
short (Some l) = fewer_than_two l

module _ (line : List ℕ) (at : ℕ) where
  -- where two are read, they stand before those behind them
  pub pair_numbers : (p : Pair) → pair_at line at ≡ Some p → numbers_at line at ≡ number_before p.first (number_before p.second (numbers_at line p.next))
  unfolding pair_at
  pair_numbers p is = first (word_at line at) refl is
    where
      second : (n m : ℕ) (w : Word) → word_at line m ≡ w → pair_with n w ≡ Some p
          → number_before n (numbers_at line m) ≡ number_before p.first (number_before p.second (numbers_at line p.next))
      second n m (Number x y) e h =
          let q : record { first = n; second = x; next = y } ≡ p = cc in
          rw (numbers_more line m x y e, ← q)
      second n m End e h = absurd (cc)
      second n m Other e h = absurd (cc)

      first : (w : Word) → word_at line at ≡ w → pair_after line w ≡ Some p
          → numbers_at line at ≡ number_before p.first (number_before p.second (numbers_at line p.next))
      first (Number n m) e h = numbers_more line at n m e ∙ second n m (word_at line m) refl h
      first End e h = absurd (cc)
      first Other e h = absurd (cc)

  -- where they are missing, there are no two
  pub pair_missing : pair_at line at ≡ None → short (numbers_at line at) ≡ true
  unfolding pair_at
  pair_missing is = first (word_at line at) refl is
    where
      second : (n m : ℕ) (w : Word) → word_at line m ≡ w → pair_with n w ≡ None → short (number_before n (numbers_at line m)) ≡ true
      second n m (Number x y) e h = absurd (cc)
      second n m End e h = rw (numbers_end line m e)
      second n m Other e h = rw (numbers_other line m e)

      first : (w : Word) → word_at line at ≡ w → pair_after line w ≡ None → short (numbers_at line at) ≡ true
      first (Number n m) e h = rw (numbers_more line at n m e) (second n m (word_at line m) refl h)
      first End e h = rw (numbers_end line at e)
      first Other e h = rw (numbers_other line at e)

-- ---- what numbers make of the numbers behind them

module _ (rows columns : ℕ) where
  two_before : (ns : Option (List ℕ)) → with_cells rows columns ns ≡ line_from (number_before rows (number_before columns ns))
  two_before None = refl
  two_before (Some l) = refl

  -- two numbers and fewer than two behind them are no board with a start
  short_behind : (ns : Option (List ℕ)) → short ns ≡ true → None ≡ start_from (number_before rows (number_before columns ns))
  short_behind None e = refl
  short_behind (Some []) e = refl
  short_behind (Some (n ∷ [])) e = refl
  short_behind (Some (n ∷ m ∷ l)) e = absurd (cc)

  -- and four make a board with a start of the cells behind them, or none of a line that is unreadable
  module _ (row column : ℕ) where
    four_before : (ns : Option (List ℕ)) (board : Line) → with_cells rows columns ns ≡ Some board
        → Some (record { board = board; start_row = row; start_column = column })
        ≡ start_from (number_before rows (number_before columns (number_before row (number_before column ns))))
    four_before None board e = absurd (cc)
    four_before (Some l) board e = cc

    four_unread : (ns : Option (List ℕ)) → with_cells rows columns ns ≡ None
        → None ≡ start_from (number_before rows (number_before columns (number_before row (number_before column ns))))
    four_unread None e = refl
    four_unread (Some l) e = absurd (cc)

-- fewer than two are no line of either kind
short_line : (ns : Option (List ℕ)) → short ns ≡ true → (None ≡ line_from ns) × (None ≡ start_from ns)
short_line None e = (refl, refl)
short_line (Some []) e = (refl, refl)
short_line (Some (n ∷ [])) e = (refl, refl)
short_line (Some (n ∷ m ∷ l)) e = absurd (cc)

-- ---- a line that is read

module _ (line : List ℕ) where
  pub line_missing : pair_at line 0 ≡ None → None ≡ line_of line
  unfolding line_of
  line_missing e = (short_line (numbers_at line 0) (pair_missing line 0 e)).0

  pub start_missing : pair_at line 0 ≡ None → None ≡ start_line_of line
  unfolding start_line_of
  start_missing e = (short_line (numbers_at line 0) (pair_missing line 0 e)).1

  module _ (sides : Pair) (first : pair_at line 0 ≡ Some sides) where
    pub line_cells : with_cells sides.first sides.second (numbers_at line sides.next) ≡ line_of line
    unfolding line_of
    line_cells = rw (pair_numbers line 0 sides first) (two_before sides.first sides.second (numbers_at line sides.next))

    pub start_behind_missing : pair_at line sides.next ≡ None → None ≡ start_line_of line
    unfolding start_line_of
    start_behind_missing e = rw (pair_numbers line 0 sides first) (short_behind sides.first sides.second (numbers_at line sides.next) (pair_missing line sides.next e))

    module _ (start : Pair) (second : pair_at line sides.next ≡ Some start) where
      pub start_cells : (board : Line) → with_cells sides.first sides.second (numbers_at line start.next) ≡ Some board
          → Some (record { board = board; start_row = start.first; start_column = start.second }) ≡ start_line_of line
      unfolding start_line_of
      start_cells board is =
          rw (pair_numbers line 0 sides first, pair_numbers line sides.next start second)
          (four_before sides.first sides.second start.first start.second (numbers_at line start.next) board is)

      pub start_unread : with_cells sides.first sides.second (numbers_at line start.next) ≡ None → None ≡ start_line_of line
      unfolding start_line_of
      start_unread is =
          rw (pair_numbers line 0 sides first, pair_numbers line sides.next start second)
          (four_unread sides.first sides.second start.first start.second (numbers_at line start.next) is)
