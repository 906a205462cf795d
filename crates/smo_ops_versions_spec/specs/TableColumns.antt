-- Each table of an accepted schema has a column.
use Rattle.std.specs.Prelude.{◌≡◌, ◌≤◌, ℕ, List, Some, length}
use Rattle.std.specs.FinMap.{get}
use Rattle.prima_base.specs.Columns.{Column}
use Rattle.schema_catalog.specs.Tables.{Tables}

-- each table has a column
abbrev pub HaveColumns : Tables → Type 0
HaveColumns tables = (name : List ℕ) (columns : List Column) → get tables name ≡ Some columns
    → 1 ≤ length columns
