-- The columns and the rows of the tables that operators make.
use Rattle.std.specs.Prelude.{ℕ, List, [], ◌++◌, ◌||◌, Bool, not, map, Option, Some, None}
use Rattle.std.specs.Prelude.{if◌then◌else◌}
use Rattle.std.specs.List.{filter, flat_map, list_all}
use Rattle.std.specs.Option.{unwrap_or}
use Rattle.std.specs.declared.cmp.Ordering.{Ordering}
use Rattle.relations_spec.specs.Sets.{set_of, put_in}
use Rattle.prima_base.specs.declared.value.Value.{Value}
use Rattle.prima_base.specs.declared.value.ColType.{ColType}
use Rattle.prima_base.specs.declared.value.ColType.TheVariants.{Int as INT}
use Rattle.prima_base.specs.Order.{bytes_cmp, value_eq, row_cmp}
use Rattle.prima_base.specs.Columns.{Column, names_of}
use Rattle.schema_catalog.specs.Databases.{cell, DatabaseEntry, Rows, Lost}
use Rattle.cond_expr.specs.Trees.{Tree, Test}
use Rattle.cond_expr.specs.Values.{value}
use Rattle.cond_expr.specs.Kinds.{kind_of}
use Rattle.smo_ops_spec.specs.OneRow.{Row, Relation, same, own_kinds, own_cells, meets}
use Rattle.smo_ops_spec.specs.Preconditions.{among}

-- columns by their names
abbrev pub column_cmp : Column → Column → Ordering
column_cmp a b = bytes_cmp a.0 b.0

abbrev pub in_order : List Column → List Column
in_order columns = set_of column_cmp columns

abbrev pub named : List (List ℕ) → List Column → List Column
named names columns = filter (λ (c : Column). among c.0 names) columns

abbrev pub without : List ℕ → List Column → List Column
without name columns = filter (λ (c : Column). not (same c.0 name)) columns

abbrev pub renamed : List ℕ → List ℕ → List Column → List Column
renamed old new columns = in_order (map (λ (c : Column). if same c.0 old then (new, c.1) else c)
    columns)

abbrev pub with_column : List ℕ → ColType → List Column → List Column
with_column name kind columns = put_in column_cmp (name, kind) columns

abbrev pub type_of_value : List Column → Tree → ColType
type_of_value columns t = unwrap_or (kind_of (own_kinds columns) t) INT

-- the names of the columns that both have
abbrev pub common_names : List Column → List Column → List (List ℕ)
common_names cs ds = filter (λ n. among n (names_of ds)) (names_of cs)

abbrev pub joined_columns : List Column → List Column → List Column
joined_columns cs ds = in_order (cs ++ ds)

-- the relation of the rows that have in each column what f has there for some row
abbrev pub image : List Column → (Row → List ℕ → Value) → Relation → Relation
image columns f rows = set_of row_cmp (map (λ row. map (λ (c : Column). f row c.0) columns) rows)

abbrev pub union : Relation → Relation → Relation
union a b = set_of row_cmp (a ++ b)

-- each row with the expression's value in one column more
abbrev pub added_value : List Column → List ℕ → Tree → Row → List ℕ → Value
added_value columns c e row name = if same c name then value (own_cells columns row) e
    else cell columns row name

-- each row with the old column's value under the new name
abbrev pub moved : List Column → List ℕ → List ℕ → Row → List ℕ → Value
moved columns b c row name = if same c name then cell columns row b else cell columns row name

-- the rows agree on all common columns
abbrev pub agree : List Column → List Column → Row → Row → Bool
agree cs ds a b = list_all (λ (c : Column). not (among c.0 (names_of ds))
    || value_eq (cell cs a c.0) (cell ds b c.0)) cs

abbrev pub joined_value : List Column → List Column → Row → Row → List ℕ → Value
joined_value cs ds a b name = if among name (names_of cs) then cell cs a name else cell ds b name

abbrev pub joined_row : List Column → List Column → Row → Row → Row
joined_row cs ds a b = map (λ (c : Column). joined_value cs ds a b c.0) (joined_columns cs ds)

-- each pair that agrees on all common columns, joined, that meets the condition
abbrev pub join_rows : List Column → List Column → Test → Relation → Relation → Relation
join_rows cs ds c first second =
    set_of row_cmp (filter (meets (joined_columns cs ds) c)
    (flat_map (λ a. map (joined_row cs ds a) (filter (agree cs ds a) second)) first))

-- what is made of one table, and of two; with a lost input it is lost by the same loss, and of two
-- the first named lost one decides. An absent input gives no rows, and hides no loss
abbrev pub from_one : (Relation → Relation) → Option DatabaseEntry → DatabaseEntry
from_one f None = Rows []
from_one f (Some (Rows rows)) = Rows (f rows)
from_one f (Some (Lost k i)) = Lost k i

abbrev pub from_two : (Relation → Relation → Relation) → Option DatabaseEntry → Option DatabaseEntry
    → DatabaseEntry
from_two f None second = from_one (λ rows. []) second
from_two f (Some (Lost k i)) second = Lost k i
from_two f (Some (Rows rows)) second = from_one (f rows) second
