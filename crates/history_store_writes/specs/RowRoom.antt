-- The room that rows take.
use Rattle.std.specs.Prelude.{ℕ, ◌+◌, List, [], ◌∷◌}
use Rattle.prima_base.specs.declared.value.Value.{Value}
use Rattle.history_store_columns.specs.StoredValues.{text_room}

-- a row takes a unit of room, and one more for each 32 bytes of a text of it
abbrev pub row_room : List Value → ℕ
row_room [] = 1
row_room (v ∷ row) = text_room v + row_room row

abbrev pub rows_room : List (List Value) → ℕ
rows_room [] = 0
rows_room (row ∷ rows) = row_room row + rows_room rows
