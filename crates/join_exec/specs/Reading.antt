-- What is read of a table: its keys, and the entries of some of its columns.
use Rattle.std.specs.Prelude.{ℕ, ◌+◌, List, [], ◌∷◌, length, Option, Some, None}
use Rattle.relations_spec.specs.Sets.{In}
use Rattle.prima_base.specs.Columns.{Column, names_of}
use Rattle.history_store_spec.specs.Store.{Cell, Store, column_of}

-- each of the names is a column's
abbrev pub AreNames : List Column → List (List ℕ) → Type 0
AreNames columns names = (name : List ℕ) → In name names → In name (names_of columns)

-- how many entries the column has
abbrev pub count_in : Option (List Cell) → ℕ
count_in None = 0
count_in (Some cells) = length cells

-- how many entries the columns of these names have, and how many are read of them: these, and the
-- keys
abbrev pub entries_in : Store → List (List ℕ) → ℕ
entries_in s [] = 0
entries_in s (name ∷ names) = count_in (column_of s name) + entries_in s names

abbrev pub reads : Store → List (List ℕ) → ℕ
reads s names = length s.keys + entries_in s names
