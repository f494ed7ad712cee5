-- Small inputs, carried over by computing the definition. Assumes nothing.
use mathlib.Core.Path.{◌≡◌, refl}
use mathlib.Core.List.{[], ◌∷◌}
use Rattle.records.specs.Records.{record_length}
use Rattle.migration.specs.Migrated.{is_stored, is_changed, migrated_record, migrated}

-- 1 x 3 with a 0 in the last cell: the start is 0,2
last_cell : migrated (77 ∷ 66 ∷ 1 ∷ 3 ∷ 255 ∷ 255 ∷ 255 ∷ 1 ∷ 0 ∷ []) ≡ 77 ∷ 66 ∷ 1 ∷ 3 ∷ 0 ∷ 2 ∷ 255 ∷ 1 ∷ 0 ∷ []
unfolding migrated is_stored is_changed migrated_record record_length
last_cell = refl

-- 3 x 2 with zeros in the last row: the start is 2,0, and the record behind it is carried over too
second_record : migrated (77 ∷ 66 ∷ 3 ∷ 2 ∷ 255 ∷ 255 ∷ 255 ∷ 1 ∷ 1 ∷ 1 ∷ 0 ∷ 0 ∷ 77 ∷ 66 ∷ 1 ∷ 1 ∷ 255 ∷ 255 ∷ 0 ∷ [])
    ≡ 77 ∷ 66 ∷ 3 ∷ 2 ∷ 2 ∷ 0 ∷ 255 ∷ 1 ∷ 1 ∷ 1 ∷ 0 ∷ 0 ∷ 77 ∷ 66 ∷ 1 ∷ 1 ∷ 0 ∷ 0 ∷ 0 ∷ []
unfolding migrated is_stored is_changed migrated_record record_length
second_record = refl

-- without a 0; without a cell
no_zero : migrated (77 ∷ 66 ∷ 1 ∷ 2 ∷ 255 ∷ 255 ∷ 255 ∷ 1 ∷ []) ≡ 77 ∷ 66 ∷ 1 ∷ 2 ∷ 255 ∷ 255 ∷ 255 ∷ 1 ∷ []
unfolding migrated is_stored is_changed migrated_record record_length
no_zero = refl

no_cell : migrated (77 ∷ 66 ∷ 0 ∷ 5 ∷ 255 ∷ 255 ∷ []) ≡ 77 ∷ 66 ∷ 0 ∷ 5 ∷ 255 ∷ 255 ∷ []
unfolding migrated is_stored is_changed migrated_record record_length
no_cell = refl

-- half open: another start
half_open : migrated (77 ∷ 66 ∷ 1 ∷ 1 ∷ 255 ∷ 0 ∷ 0 ∷ []) ≡ 77 ∷ 66 ∷ 1 ∷ 1 ∷ 255 ∷ 0 ∷ 0 ∷ []
unfolding migrated is_stored is_changed migrated_record record_length
half_open = refl

-- cut short in its cells
short : migrated (77 ∷ 66 ∷ 1 ∷ 3 ∷ 255 ∷ 255 ∷ 0 ∷ 0 ∷ []) ≡ 77 ∷ 66 ∷ 1 ∷ 3 ∷ 255 ∷ 255 ∷ 0 ∷ 0 ∷ []
unfolding migrated is_stored is_changed migrated_record record_length
short = refl

-- an unknown mark, with a good record behind it
unknown_mark : migrated (77 ∷ 67 ∷ 1 ∷ 1 ∷ 255 ∷ 255 ∷ 0 ∷ 77 ∷ 66 ∷ 1 ∷ 1 ∷ 255 ∷ 255 ∷ 0 ∷ [])
    ≡ 77 ∷ 67 ∷ 1 ∷ 1 ∷ 255 ∷ 255 ∷ 0 ∷ 77 ∷ 66 ∷ 1 ∷ 1 ∷ 255 ∷ 255 ∷ 0 ∷ []
unfolding migrated is_stored is_changed migrated_record record_length
unknown_mark = refl
