-- The writes of several columns, and few rows of many.
use Rattle.std.specs.Prelude.{ℕ, ◌/◌, max, List, [], ◌∷◌}
use Rattle.history_store_columns.specs.Log.{Log, Write}

abbrev pub cells_of : List Log → List (List Write)
cells_of [] = []
cells_of (c ∷ columns) = c.cells ∷ cells_of columns

-- a change that gains and loses no more rows than so many keeps their places alone
abbrev pub few_changed_rows : ℕ
few_changed_rows = 64

-- how many rows are few in a table of so many: 64, or one in 64 where that is more
abbrev pub few_of : ℕ → ℕ
few_of rows = max few_changed_rows (rows / few_changed_rows)
