-- The columns of a table that have an index, and its rows with one value.
use Rattle.std.specs.Prelude.{ℕ, ◌+◌, List, [], ◌∷◌, ◌++◌, if◌then◌else◌}
use Rattle.std.specs.List.{filter}
use Rattle.prima_base.specs.declared.value.Value.{Value}
use Rattle.history_store_columns.specs.Puts.{is_value}
use Rattle.history_store_writes.specs.ValueIndexes.{is_indexed}
use Rattle.history_store_change_spec.specs.Handing.{at_column}

-- the columns that have one, and this one among them
abbrev pub indexed_with : ℕ → List ℕ → List ℕ
indexed_with column indexed = if is_indexed column indexed then indexed else indexed ++ column ∷ []

-- those of the rows that have this value in the column at this place
abbrev pub rows_with : ℕ → Value → List (List Value) → List (List Value)
rows_with column value rows = filter (λ row. is_value value (at_column column row)) rows
