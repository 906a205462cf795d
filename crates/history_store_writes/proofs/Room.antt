-- Room for rows, in units.
use Rattle.std.proofs.Common.{ℕ, zero, suc, ◌<◌, ◌≤◌, List, [], ◌∷◌, length, get_or, arith}
use Rattle.prima_base.specs.declared.value.Value.{Value}
use Rattle.history_store_columns.specs.StoredValues.{text_room}
use Rattle.history_store_writes.specs.RowRoom.{row_room, rows_room}

some_room : (row : List Value) → 0 < row_room row
some_room [] = omega arith
some_room (v ∷ row) = let r = some_room row in omega (arith, r)

-- each value of a row has its room in the row's
pub room_at : (row : List Value) (k : ℕ) (d : Value) → k < length row
    → text_room (get_or row k d) < row_room row
room_at [] k d h = absurd (omega arith)
room_at (v ∷ row) zero d h = let r = some_room row in omega (arith, r)
room_at (v ∷ row) (suc k) d h = let r = room_at row k d (omega arith) in omega (arith, r)

-- each row takes room
pub least_rows_room : (rows : List (List Value)) → length rows ≤ rows_room rows
least_rows_room [] = omega arith
least_rows_room (row ∷ rows) =
    let r = least_rows_room rows in
    let s = some_room row in
    omega (arith, r, s)
