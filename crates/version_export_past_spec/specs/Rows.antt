-- What leads from one database to another, row by row: per table a DELETE for each row that has
-- ended, then an INSERT for each row that has begun.
use Rattle.std.specs.Prelude.{ℕ, List, [], ◌∷◌, ◌++◌, map}
use Rattle.std.specs.List.{flat_map}
use Rattle.std.specs.FinMap.{get}
use Rattle.prima_base.specs.declared.value.Value.{Value}
use Rattle.prima_base.specs.Columns.{Column}
use Rattle.schema_catalog.specs.Places.{NamedColumns}
use Rattle.schema_catalog.specs.Databases.{Database}
use Rattle.cond_expr.specs.declared.expr.Whose.TheVariants.{Atom}
use Rattle.cond_expr.specs.declared.expr.CmpOp.TheVariants.{Eq}
use Rattle.cond_expr.specs.Trees.{Test, Tests, column, constant, always, compared, all_of}
use Rattle.cond_expr.specs.Trees.{no_tests, a_test}
use Rattle.smo_ops_types.specs.Changes.{PlainChange, insertion, deletion}
use Rattle.smo_ops_spec.specs.OneRow.{Row, Relation}
use Rattle.smo_ops_spec.specs.Effects.{gained_rows, rows_under}

-- a column's name, and a value in it
abbrev pub Cell : Type 0
Cell = List ℕ × Value

-- what a row has in each column, in the order of the columns
abbrev pub row_cells : List Column → Row → List Cell
row_cells [] row = []
row_cells (c ∷ columns) [] = []
row_cells (c ∷ columns) (v ∷ row) = (c.0, v) ∷ row_cells columns row

-- COLUMN = VALUE
abbrev pub has_cell : Cell → Test
has_cell c = compared Eq (column (Atom 0) c.0) (constant c.1)

abbrev pub have_cells : List Cell → Tests
have_cells [] = no_tests
have_cells (c ∷ cells) = a_test (has_cell c) (have_cells cells)

-- COLUMN = VALUE for all columns, joined by AND: one alone is itself
abbrev pub is_row_of : List Cell → Test
is_row_of [] = always
is_row_of (c ∷ []) = has_cell c
is_row_of (c ∷ d ∷ cells) = all_of (have_cells (c ∷ d ∷ cells))

-- a row of a table ends, and a row begins
abbrev pub ending : NamedColumns → Row → PlainChange
ending t row = deletion t.0 (is_row_of (row_cells t.1 row))

abbrev pub beginning : NamedColumns → Row → PlainChange
beginning t row = insertion t.0 (row_cells t.1 row)

-- of one table, from one relation to another: the rows that have ended, then those that have begun,
-- both ascending
abbrev pub table_changes : NamedColumns → Relation → Relation → List PlainChange
table_changes t old new = map (ending t) (gained_rows new old)
    ++ map (beginning t) (gained_rows old new)

-- of all tables, in their order
abbrev pub changes_between : List NamedColumns → Database → Database → List PlainChange
changes_between tables old new = flat_map (λ (t : NamedColumns).
    table_changes t (rows_under (get old t.0)) (rows_under (get new t.0))) tables
