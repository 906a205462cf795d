-- Rows that ids have now, column by column.
use Rattle.std.specs.Prelude.{◌≡◌, ℕ, ◌+◌, List, [], ◌∷◌, ◌++◌, length}
use Rattle.prima_base.specs.declared.value.Value.{Value}
use Rattle.history_store_columns.specs.Log.{Write, newest}

abbrev pub row_now : ℕ → List (List Write) → List Value
row_now id [] = []
row_now id (c ∷ columns) = newest id c ++ row_now id columns

abbrev pub rows_of : List ℕ → List (List Write) → List (List Value)
rows_of [] columns = []
rows_of (id ∷ ids) columns = row_now id columns ∷ rows_of ids columns

-- each row has so many values
abbrev pub AllWidth : ℕ → List (List Value) → Type 0
AllWidth width [] = Unit {0}
AllWidth width (row ∷ rows) = (length row ≡ width) × AllWidth width rows
