-- How much is stored of each table over a lifeline of it, by relations alone. A lifeline is a
-- longest run of versions in which no operator makes or consumes the table (PRIMA 2008 stores a
-- table once over such a run).
use Rattle.std.specs.Prelude.{ℕ, ◌+◌, ◌-◌, List, [], ◌∷◌, ◌++◌, length, map, Option, Some, None}
use Rattle.std.specs.Prelude.{if◌then◌else◌}
use Rattle.std.specs.List.{filter}
use Rattle.std.specs.FinMap.{get, entries}
use Rattle.prima_base.specs.Order.{value_eq}
use Rattle.prima_base.specs.declared.value.Value.{Value}
use Rattle.prima_base.specs.declared.value.Value.TheVariants.{Int, Text}
use Rattle.prima_base.specs.Columns.{Column}
use Rattle.schema_catalog.specs.Tables.{Tables}
use Rattle.schema_catalog.specs.Databases.{Database}
use Rattle.smo_ops_types.specs.Operators.{Operator}
use Rattle.smo_ops_spec.specs.OneRow.{Relation}
use Rattle.smo_ops_spec.specs.Effects.{rows_under, gained_rows}
use Rattle.smo_ops_spec.specs.Evolutions.{one_makes, one_consumes}

-- of one column: its cells, and the bytes of the values that were written in them
pub record Written : Type 0 where
  pub cells : ℕ
  pub bytes : ℕ

-- a lifeline of a table, from its first version to its last, none while it lives: its keys, and
-- what was written of each column
pub record Size : Type 0 where
  pub table : List ℕ
  pub first : ℕ
  pub last : Option ℕ
  pub keys : ℕ
  pub columns : List Written

-- the cells of all columns
abbrev pub cells_in : List Written → ℕ
cells_in [] = 0
cells_in (w ∷ columns) = w.cells + cells_in columns

abbrev pub none_written : Written
none_written = record { cells = 0; bytes = 0 }

-- the bytes of a value in an image: a tag, and 8 bytes of a number, or the length of a text in 2
-- bytes and its own
abbrev pub value_bytes : Value → ℕ
value_bytes (Int n) = 9
value_bytes (Text t) = 3 + length t

abbrev pub one_written : Value → Written
one_written v = record { cells = 1; bytes = value_bytes v }

-- a value is written where it differs from the one before it
abbrev pub if_differs : Value → Value → Written
if_differs old new = if value_eq old new then none_written else one_written new

abbrev pub both_written : Written → Written → Written
both_written a b = record { cells = a.cells + b.cells; bytes = a.bytes + b.bytes }

-- column by column, over the columns of a lifeline
abbrev pub with_written : List Written → List Written → List Written
with_written [] more = []
with_written (w ∷ columns) [] = w ∷ columns
with_written (w ∷ columns) (m ∷ more) = both_written w m ∷ with_written columns more

abbrev pub row_written : List Value → List Written
row_written values = map one_written values

abbrev pub row_replaced : List Value → List Value → List Written
row_replaced [] new = []
row_replaced (v ∷ old) [] = []
row_replaced (v ∷ old) (w ∷ new) = if_differs v w ∷ row_replaced old new

-- the i-th lost row is the partner of the i-th gained one: of a pair what differs is written, of a
-- gained row without a partner all
abbrev pub rows_written : Relation → Relation → List Written → List Written
rows_written lost [] columns = columns
rows_written [] (g ∷ gained) columns = rows_written [] gained (with_written columns (row_written g))
rows_written (l ∷ lost) (g ∷ gained) columns =
    rows_written lost gained (with_written columns (row_replaced l g))

-- ---- after changes

-- with the rows that a change loses and gains: each gained one without a partner is a key
abbrev pub rows_changed : Relation → Relation → Size → Size
rows_changed lost gained s = record {
  table = s.table;
  first = s.first;
  last = s.last;
  keys =
      s.keys + (length gained - length lost);
  columns = rows_written lost gained s.columns;
}

abbrev pub living_changed : Database → Database → Size → Size
living_changed old new s =
    let before = rows_under (get old s.table) in
    let later = rows_under (get new s.table) in
    rows_changed (gained_rows later before) (gained_rows before later) s

-- a lifeline that has ended stays
abbrev pub if_living : Option ℕ → Size → Size → Size
if_living None living ended = living
if_living (Some k) living ended = ended

abbrev pub size_changed : Database → Database → Size → Size
size_changed old new s = if_living s.last (living_changed old new s) s

abbrev pub sizes_changed : Database → Database → List Size → List Size
sizes_changed old new sizes = map (size_changed old new) sizes

-- ---- after an operator

-- the lifelines of the tables that it consumes end with the version before
abbrev pub ended_with : ℕ → Size → Size
ended_with k s = record {
  table = s.table;
  first = s.first;
  last = Some k;
  keys = s.keys;
  columns =
      s.columns;
}

abbrev pub size_after : Tables → List Operator → ℕ → Size → Size
size_after before op k s = if_living s.last (if one_consumes before op s.table then ended_with k s
    else s) s

-- and those of the tables that it makes begin, with all their rows
abbrev pub size_begun : ℕ → Database → List ℕ × List Column → Size
size_begun k database t =
    let rows = rows_under (get database t.0) in
    record {
      table = t.0;
      first = k;
      last = None;
      keys = length rows;
      columns =
          rows_written [] rows (map (λ (c : Column). none_written) t.1);
    }

-- after the operator of version k + 1, of which these are the tables and this the database; new
-- ones stand after the others, in the order of their names
abbrev pub sizes_evolved : Tables → List Operator → Tables → Database → ℕ → List Size → List Size
sizes_evolved before op after database k sizes =
    map (size_after before op k) sizes
    ++ map (size_begun (k + 1) database) (filter (λ (t : List ℕ × List Column). one_makes before op t.0)
    (entries after))
