-- Worked rows: what is stored of a table that gains a row, changes it in one column, and is
-- renamed.
use Rattle.std.specs.Prelude.{◌≡◌, ℕ, ◌∷◌, [], List, pos, Option, Some, None, codes, refl}
use Rattle.std.specs.FinMap.{get}
use Rattle.prima_base.specs.declared.value.Value.TheVariants.{Int, Text}
use Rattle.prima_base.specs.declared.value.ColType.TheVariants.{Int as INT, Text as TEXT}
use Rattle.prima_base.specs.Columns.{Column}
use Rattle.schema_catalog.specs.Tables.{Tables}
use Rattle.schema_catalog.specs.Databases.{Rows, Database}
use Rattle.smo_ops_types.specs.Operators.{rename_table}
use Rattle.smo_ops_spec.specs.OneRow.{Relation}
use Rattle.smo_ops_spec.specs.Sizes.{Size, Written, cells_in, size_changed, size_after, size_begun}

abbrev a : List ℕ
a = codes "a"

abbrev b : List ℕ
b = codes "b"

abbrev t : List ℕ
t = codes "t"

abbrev u : List ℕ
u = codes "u"

-- t (a INT, b TEXT) with one row, in which b goes from 'x' to 'yy'
abbrev columns : List Column
columns = (a, INT) ∷ (b, TEXT) ∷ []

abbrev x_rows : Relation
x_rows = (Int (pos 1) ∷ Text (codes "x") ∷ []) ∷ []

abbrev y_rows : Relation
y_rows = (Int (pos 1) ∷ Text (codes "yy") ∷ []) ∷ []

abbrev written : ℕ → ℕ → Written
written cells bytes = record { cells = cells; bytes = bytes }

abbrev size : List ℕ → ℕ → Option ℕ → ℕ → List Written → Size
size name first last keys columns = record {
  table = name;
  first = first;
  last = last;
  keys = keys;
  columns = columns;
}

-- created in version 1 it has nothing
begins_empty : (db : Database) → get db t ≡ Some (Rows [])
    → size_begun 1 db (t, columns) ≡ size t 1 None 0 (written 0 0 ∷ written 0 0 ∷ [])
begins_empty db e = rw e refl

-- a row is a key and a cell of each column: 9 bytes of a number, and 3 with those of a text
gains_a_row : (old new : Database) → get old t ≡ Some (Rows []) → get new t ≡ Some (Rows x_rows)
    → size_changed old new (size t 1 None 0 (written 0 0 ∷ written 0 0 ∷ []))
    ≡ size t 1 None 1 (written 1 9 ∷ written 1 4 ∷ [])
gains_a_row old new e f = rw (e, f) refl

-- an UPDATE of b writes one cell more
changes_a_cell : (old new : Database) → get old t ≡ Some (Rows x_rows)
    → get new t ≡ Some (Rows y_rows)
    → size_changed old new (size t 1 None 1 (written 1 9 ∷ written 1 4 ∷ []))
    ≡ size t 1 None 1 (written 1 9 ∷ written 2 9 ∷ [])
changes_a_cell old new e f = rw (e, f) refl

three_cells : cells_in (written 1 9 ∷ written 2 9 ∷ []) ≡ 3
three_cells = refl

-- renamed in version 2 the one lifeline ends, and that of the new name begins with all rows
ends : (tables : Tables) → size_after tables (rename_table t u ∷ []) 1
    (size t 1 None 1 (written 1 9 ∷ written 2 9 ∷ []))
    ≡ size t 1 (Some 1) 1 (written 1 9 ∷ written 2 9 ∷ [])
ends tables = refl

begins : (db : Database) → get db u ≡ Some (Rows y_rows)
    → size_begun 2 db (u, columns) ≡ size u 2 None 1 (written 1 9 ∷ written 1 5 ∷ [])
begins db e = rw e refl

-- what has ended stays as it is
stays : (old new : Database) → size_changed old new
    (size t 1 (Some 1) 1 (written 1 9 ∷ written 2 9 ∷ []))
    ≡ size t 1 (Some 1) 1 (written 1 9 ∷ written 2 9 ∷ [])
stays old new = refl
