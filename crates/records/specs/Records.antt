-- Board records (SPECIFICATION 5.1): the bytes 4D 42 or 4D 43, rows, columns, start row, start column, a byte each, then the cells row by row. The mark tells
-- the rule, and has no part in the fields. In the program refusals 10 and 11 come first: two bytes that are no known mark are 10, and an input that ends inside a
-- record is 11, one lone byte included. Assumes nothing.
use Rattle.std.specs.Prelude.{Bool, true, false, Option, None, Some, Result, Ok, Err, cond, List, [], ◌∷◌, ℕ, ◌+◌, ◌-◌, ◌*◌, ltb, eqb, length, get_or, take, drop}
use Rattle.refusals.specs.declared.Refusal.{Refusal}
use Rattle.refusals.specs.declared.Refusal.TheVariants.{Mark, Short}
use Rattle.records.specs.declared.BoardMark.{BoardMark}
use Rattle.records.specs.declared.BoardMark.TheVariants.{Plain, Total, Unknown}
use Rattle.records.specs.declared.Head.{Head}

-- how many bytes a record has in all, by its first six; six where there are fewer
unfoldable pub record_length : List ℕ → ℕ
record_length input = cond (ltb (length input) 6) 6 (6 + get_or input 2 0 * get_or input 3 0)

-- 4D 42 marks a plain board, 4D 43 one that shows its mine total, and no other mark is known
abbrev pub board_mark : ℕ → ℕ → BoardMark
board_mark x y = cond (eqb x 77) (cond (eqb y 66) Plain (cond (eqb y 67) Total Unknown)) Unknown

-- is it a known mark?
abbrev pub known_mark : BoardMark → Bool
known_mark Plain = true
known_mark Total = true
known_mark Unknown = false

-- the head of a record with this mark
abbrev pub head_of : BoardMark → List ℕ → Head
head_of mark input = record { mark = mark; rows = get_or input 2 0; columns = get_or input 3 0; row = get_or input 4 0; column = get_or input 5 0 }

-- what two bytes and more are, by their mark
abbrev pub marked_record : BoardMark → List ℕ → Result (Option Head) Refusal
marked_record mark input =
    cond (known_mark mark) (cond (ltb (length input) (record_length input)) (Err Short) (Ok (Some (head_of mark input)))) (Err Mark)

-- a part of the input that begins where a record should: nothing where the input has ended, the head of a whole record, or a refusal
unfoldable pub record_of : List ℕ → Result (Option Head) Refusal
record_of [] = Ok None
record_of (x ∷ []) = Err Short
record_of (x ∷ y ∷ l) = marked_record (board_mark x y) (x ∷ y ∷ l)

-- the cells of a whole record
abbrev pub cells_in : List ℕ → List ℕ
cells_in input = take (record_length input - 6) (drop 6 input)
