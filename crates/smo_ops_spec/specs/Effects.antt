-- What changes do to a relation and to a database, and which rows are gained and lost.
use Rattle.std.specs.Prelude.{ℕ, ◌+◌, List, [], ◌∷◌, not, map, length, Option, Some, None}
use Rattle.std.specs.List.{filter}
use Rattle.std.specs.FinMap.{get, insert, entries}
use Rattle.relations_spec.specs.Sets.{set_of, put_in, has}
use Rattle.prima_base.specs.Order.{row_cmp}
use Rattle.prima_base.specs.Columns.{Column}
use Rattle.schema_catalog.specs.Tables.{Tables}
pub use Rattle.schema_catalog.specs.Tables.{columns_of}
use Rattle.schema_catalog.specs.Databases.{DatabaseEntry, Rows, Lost, Database}
use Rattle.smo_ops_types.specs.Changes.{PlainChange, insertion, deletion, update, table_of}
use Rattle.smo_ops_spec.specs.OneRow.{Relation, meets, row_of, updated}

-- INSERT is the union with the row, DELETE leaves the rows that do not meet the condition, and
-- UPDATE is the image in which each row is what it is updated to
abbrev pub relation_after : List Column → PlainChange → Relation → Relation
relation_after columns (insertion t cells) rows = put_in row_cmp (row_of columns cells) rows
relation_after columns (deletion t c) rows = filter (λ row. not (meets columns c row)) rows
relation_after columns (update t sets c) rows = set_of row_cmp (map (updated columns sets c) rows)

-- what is done to a relation, done to an entry; what is lost stays lost
abbrev pub entry_after : (Relation → Relation) → DatabaseEntry → DatabaseEntry
entry_after f (Rows rows) = Rows (f rows)
entry_after f (Lost k i) = Lost k i

-- the database with one entry changed; where there is no such entry nothing is
abbrev pub with_changed : (Relation → Relation) → Option DatabaseEntry → List ℕ → Database
    → Database
with_changed f None name database = database
with_changed f (Some entry) name database = insert database name (entry_after f entry)

-- a change is of its own table, and all others stay
abbrev pub database_after : Tables → PlainChange → Database → Database
database_after tables change database =
    with_changed (relation_after (columns_of tables (table_of change)) change)
    (get database (table_of change)) (table_of change) database

-- the changes of one command apply in order
abbrev pub after_each : Tables → List PlainChange → Database → Database
after_each tables [] database = database
after_each tables (c ∷ changes) database = after_each tables changes
    (database_after tables c database)

-- the rows of the second relation that the first does not have
abbrev pub gained_rows : Relation → Relation → Relation
gained_rows old new = filter (λ row. not (has row_cmp row old)) new

abbrev pub rows_of : DatabaseEntry → Relation
rows_of (Rows rows) = rows
rows_of (Lost k i) = []

abbrev pub rows_under : Option DatabaseEntry → Relation
rows_under None = []
rows_under (Some entry) = rows_of entry

-- the rows gained and lost from one database to another, summed over the tables
abbrev pub gained_from : Database → List (List ℕ × DatabaseEntry) → ℕ
gained_from old [] = 0
gained_from old (e ∷ entries) = length (gained_rows (rows_under (get old e.0))
    (rows_of e.1)) + gained_from old entries

abbrev pub gained : Database → Database → ℕ
gained old new = gained_from old (entries new)

abbrev pub lost : Database → Database → ℕ
lost old new = gained new old
