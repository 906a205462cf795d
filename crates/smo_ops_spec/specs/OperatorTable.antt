-- The table of operators: of each its preconditions in the order in which they are tested, the
-- tables that it makes, and the tables that it consumes.
use Rattle.std.specs.Prelude.{ℕ, List, [], ◌∷◌, ◌++◌, not, map}
use Rattle.std.specs.List.{filter}
use Rattle.std.specs.FinMap.{get, insert, remove}
use Rattle.prima_base.specs.Columns.{Column, names_of}
use Rattle.schema_catalog.specs.Tables.{Tables}
use Rattle.schema_catalog.specs.Databases.{cell, DatabaseEntry, Rows, Database}
use Rattle.smo_ops_types.specs.Operators.{Operator, nop, create_table, drop_table, rename_table}
use Rattle.smo_ops_types.specs.Operators.{copy_table, merge_table, partition_table, decompose_table}
use Rattle.smo_ops_types.specs.Operators.{join_table, add_column, drop_column, rename_column}
use Rattle.smo_ops_spec.specs.OneRow.{meets}
use Rattle.smo_ops_spec.specs.Effects.{columns_of}
use Rattle.smo_ops_spec.specs.Preconditions.{Precondition, is_there, is_free, differ}
use Rattle.smo_ops_spec.specs.Preconditions.{is_some_column}
use Rattle.smo_ops_spec.specs.Preconditions.{each_once, each_known, is_new, few_columns, few_tables}
use Rattle.smo_ops_spec.specs.Preconditions.{alike, joinable, cover, another_column, known_in}
use Rattle.smo_ops_spec.specs.Preconditions.{typed_in, test_known_in, test_typed_in}
use Rattle.smo_ops_spec.specs.Making.{in_order, named, without, renamed, with_column, type_of_value}
use Rattle.smo_ops_spec.specs.Making.{joined_columns, image, union, added_value, moved, join_rows}
use Rattle.smo_ops_spec.specs.Making.{from_one, from_two}

-- a made table: its name, its columns, and what it has, by the database before
pub record Made : Type 0 where
  pub name : List ℕ
  pub columns : List Column
  pub entry : Database → DatabaseEntry

pub record OperatorLine : Type 0 where
  pub preconditions : List Precondition
  pub made : List Made
  pub consumed : List (List ℕ)

abbrev pub a_table : List ℕ → List Column → (Database → DatabaseEntry) → Made
a_table name columns entry = record { name = name; columns = columns; entry = entry }

abbrev pub made_names : List Made → List (List ℕ)
made_names made = map (λ (m : Made). m.name) made

-- without the consumed tables, and with the made ones
abbrev pub without_all : List (List ℕ) → Tables → Tables
without_all [] tables = tables
without_all (n ∷ consumed) tables = without_all consumed (remove tables n)

abbrev pub with_all : List Made → Tables → Tables
with_all [] tables = tables
with_all (m ∷ made) tables = with_all made (insert tables m.name m.columns)

abbrev pub tables_after : Tables → List Made → List (List ℕ) → Tables
tables_after tables made consumed = with_all made (without_all consumed tables)

abbrev pub line : Tables → Operator → OperatorLine
line tables nop = record { preconditions = []; made = []; consumed = [] }
line tables (create_table r cs) =
    let made : List Made = a_table r (in_order cs) (λ db. Rows []) ∷ [] in
    record {
      preconditions = is_free tables [] r ∷ is_some_column r cs ∷ each_once r (names_of cs)
          ∷ few_columns cs ∷ few_tables (tables_after tables made []) ∷ [];
      made = made;
      consumed = [];
    }
line tables (drop_table r) = record {
  preconditions = is_there tables r ∷ [];
  made = [];
  consumed =
      r ∷ [];
}
line tables (rename_table r t) = record {
  preconditions = is_there tables r ∷ differ r t ∷ is_free tables (r ∷ []) t ∷ [];
  made = a_table t (columns_of tables r) (λ db. from_one (λ rows. rows) (get db r)) ∷ [];
  consumed = r ∷ [];
}
line tables (copy_table r t) =
    let made : List Made = a_table t (columns_of tables r)
    (λ db. from_one (λ rows. rows) (get db r)) ∷ [] in
    record {
      preconditions = is_there tables r ∷ is_free tables [] t
          ∷ few_tables (tables_after tables made []) ∷ [];
      made = made;
      consumed = [];
    }
line tables (merge_table r s t) = record {
  preconditions = is_there tables r ∷ is_there tables s ∷ differ r s ∷ is_free tables (r ∷ s ∷ []) t
      ∷ alike r (columns_of tables r) s (columns_of tables s) ∷ [];
  made = a_table t (columns_of tables r) (λ db. from_two union (get db r) (get db s)) ∷ [];
  consumed = r ∷ s ∷ [];
}
line tables (partition_table r s c t) =
    let columns : List Column = columns_of tables r in
    let made : List Made = a_table s columns (λ db. from_one (filter (meets columns c)) (get db r))
    ∷ a_table t columns (λ db. from_one (filter (λ row. not (meets columns c row))) (get db r))
    ∷ [] in
    record {
      preconditions = is_there tables r ∷ differ s t ∷ is_free tables (r ∷ []) s
          ∷ is_free tables (r ∷ []) t ∷ test_known_in r columns c ∷ test_typed_in columns c
          ∷ few_tables (tables_after tables made (r ∷ [])) ∷ [];
      made = made;
      consumed = r ∷ [];
    }
line tables (decompose_table r s xs t ys) =
    let columns : List Column = columns_of tables r in
    let made : List Made = a_table s (named xs columns)
    (λ db. from_one (image (named xs columns) (cell columns)) (get db r))
    ∷ a_table t (named ys columns) (λ db. from_one (image (named ys columns) (cell columns))
    (get db r)) ∷ [] in
    record {
      preconditions = is_there tables r ∷ differ s t ∷ is_free tables (r ∷ []) s
          ∷ is_free tables (r ∷ []) t ∷ each_known r columns (xs ++ ys)
          ∷ each_once s xs ∷ each_once t ys ∷ cover r columns xs ys
          ∷ few_tables (tables_after tables made (r ∷ [])) ∷ [];
      made = made;
      consumed = r ∷ [];
    }
line tables (join_table r s t c) =
    let columns : List Column = joined_columns (columns_of tables r) (columns_of tables s) in
    record {
      preconditions = is_there tables r ∷ is_there tables s ∷ differ r s
          ∷ is_free tables (r ∷ s ∷ []) t ∷ joinable r (columns_of tables r) s (columns_of tables s)
          ∷ few_columns columns ∷ test_known_in t columns c ∷ test_typed_in columns c ∷ [];
      made = a_table t columns (λ db. from_two
          (join_rows (columns_of tables r) (columns_of tables s) c) (get db r) (get db s)) ∷ [];
      consumed = r ∷ s ∷ [];
    }
line tables (add_column c e r) =
    let columns : List Column = columns_of tables r in
    let new : List Column = with_column c (type_of_value columns e) columns in
    record {
      preconditions = is_there tables r ∷ is_new r columns c ∷ known_in r columns e
          ∷ typed_in columns e ∷ few_columns new ∷ [];
      made = a_table r new (λ db. from_one (image new (added_value columns c e)) (get db r)) ∷ [];
      consumed = r ∷ [];
    }
line tables (drop_column c r) =
    let columns : List Column = columns_of tables r in
    record {
      preconditions = is_there tables r ∷ each_known r columns (c ∷ []) ∷ another_column r columns
          ∷ [];
      made = a_table r (without c columns) (λ db.
          from_one (image (without c columns) (cell columns)) (get db r)) ∷ [];
      consumed = r ∷ [];
    }
line tables (rename_column b r c) =
    let columns : List Column = columns_of tables r in
    record {
      preconditions = is_there tables r ∷ each_known r columns (b ∷ []) ∷ is_new r columns c ∷ [];
      made = a_table r (renamed b c columns) (λ db.
          from_one (image (renamed b c columns) (moved columns b c)) (get db r)) ∷ [];
      consumed = r ∷ [];
    }
