-- The stored tables of the newest version, and those of the next.
use Rattle.std.specs.Prelude.{◌≡◌, ℕ, Bool, false, List, [], Option, Some, None, ⊤, ◌||◌}
use Rattle.std.specs.Prelude.{if◌then◌else◌}
use Rattle.std.specs.FinMap.{get}
use Rattle.prima_base.specs.Columns.{Column, IsRelation}
use Rattle.schema_catalog.specs.Tables.{Tables}
use Rattle.schema_catalog.specs.Databases.{Database}
use Rattle.history_store.specs.Store.{Store, AllBefore, relation_at}
use Rattle.smo_ops_spec.specs.Effects.{rows_under}
use Rattle.smo_ops_spec.specs.OneRow.{Relation, same}
use Rattle.version_groups_tables.specs.declared.made_table.MadeTable.{MadeTable}
use Rattle.version_groups_tables.specs.Stored.{stored_as}

-- it has these columns, at the stamp these rows, and each of its stamps is earlier
pub record IsStoredTable (its : List Column) (stamp : ℕ) (now : Relation) (store : Store) :
    Type 0 where
  pub columns : store.columns ≡ its
  pub rows : relation_at store stamp ≡ now
  pub before : AllBefore store stamp

abbrev pub IsStoredEntry : ℕ → Relation → Option (List Column) → Option Store → Type 0
IsStoredEntry stamp rows None None = ⊤
IsStoredEntry stamp rows None (Some store) = ⊥
IsStoredEntry stamp rows (Some columns) None = ⊥
IsStoredEntry stamp rows (Some columns) (Some store) = IsStoredTable columns stamp rows store

-- the tables are those of the schema, and have what the database has of them
abbrev pub AreStored : Tables → Database → ℕ → List MadeTable → Type 0
AreStored tables database stamp made = (name : List ℕ)
    → IsStoredEntry stamp (rows_under (get database name)) (get tables name) (stored_as name made)

abbrev pub rows_stored : ℕ → Option Store → Relation
rows_stored stamp None = []
rows_stored stamp (Some store) = relation_at store stamp

-- the name is this one
abbrev pub is_name : Option (List ℕ) → List ℕ → Bool
is_name None name = false
is_name (Some n) name = same n name

-- at most two tables that are made, by their names, and their rows
pub record MadeRows : Type 0 where
  pub first : Option (List ℕ)
  pub second : Option (List ℕ)
  pub rows : Relation
  pub others : Relation

-- the rows of a table of the next version: those that were made, or else those that it had
abbrev pub next_rows : MadeRows → ℕ → List MadeTable → List ℕ → Relation
next_rows made stamp tables name = if is_name made.first name then made.rows
    else if is_name made.second name then made.others else rows_stored stamp (stored_as name tables)

-- one of those that were made has the name
abbrev pub is_made : MadeRows → List ℕ → Bool
is_made made name = is_name made.first name || is_name made.second name

-- each table of the next version has a relation of its columns
abbrev pub FitNext : Tables → MadeRows → ℕ → List MadeTable → Type 0
FitNext next made stamp tables = (name : List ℕ) → (columns : List Column)
    → get next name ≡ Some columns → IsRelation columns (next_rows made stamp tables name)

-- a table of these columns is stored, and each of its stamps is earlier
abbrev pub IsStoredBefore : ℕ → List Column → Option Store → Type 0
IsStoredBefore stamp columns None = ⊥
IsStoredBefore stamp columns (Some store) = (store.columns ≡ columns) × AllBefore store stamp

-- each table of the next version that is not made is stored
abbrev pub OthersStay : Tables → MadeRows → ℕ → List MadeTable → Type 0
OthersStay next made stamp tables = (name : List ℕ) → (columns : List Column)
    → get next name ≡ Some columns
    → is_name made.first name ≡ false → is_name made.second name ≡ false
    → IsStoredBefore stamp columns (stored_as name tables)
