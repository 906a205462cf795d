-- The databases of a schema, and the cells of a row.
use Rattle.std.specs.Prelude.{ℕ, List, [], ◌∷◌, Option, Some, None, pos, map, if◌then◌else◌}
use Rattle.std.specs.Ordering.{is_eq}
use Rattle.std.specs.FinMap.{FinMap, get}
use Rattle.prima_base.specs.declared.value.Value.{Value}
use Rattle.prima_base.specs.declared.value.Value.TheVariants.{Int}
use Rattle.prima_base.specs.Order.{bytes_cmp}
use Rattle.prima_base.specs.Columns.{Column, IsRelation}
use Rattle.schema_catalog.specs.Tables.{Tables}

-- what a row has in the column with this name; a number where there is no such column
abbrev pub cell : List Column → List Value → List ℕ → Value
cell [] row name = Int (pos 0)
cell (c ∷ columns) [] name = Int (pos 0)
cell (c ∷ columns) (v ∷ row) name = if is_eq (bytes_cmp c.0 name) then v else cell columns row name

-- what a row has in each column
abbrev pub cells_of : List Column → List Value → List Value
cells_of columns row = map (λ (c : Column). cell columns row c.0) columns

-- what a database has under a name: a relation, or the loss of one
pub data DatabaseEntry : Type 0 where
  Rows : List (List Value) → DatabaseEntry
  Lost : ℕ → ℕ → DatabaseEntry

abbrev pub Database : Type 0
Database = FinMap bytes_cmp DatabaseEntry

-- what stands under one name: a relation of a table's columns, and nothing where there is no table
abbrev pub IsEntry : Option (List Column) → Option DatabaseEntry → Type 0
IsEntry None None = Unit {0}
IsEntry None (Some entry) = ⊥
IsEntry (Some columns) None = ⊥
IsEntry (Some columns) (Some (Rows rows)) = IsRelation columns rows
IsEntry (Some columns) (Some (Lost k i)) = ⊥

-- a database of these tables: it has just them, and none is lost
abbrev pub IsDatabase : Tables → Database → Type 0
IsDatabase tables database = (name : List ℕ) → IsEntry (get tables name) (get database name)
