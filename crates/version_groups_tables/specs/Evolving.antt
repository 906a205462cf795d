-- The next version after an operator, with its stored tables.
use Rattle.std.specs.Prelude.{◌≡◌, ℕ, ◌+◌, ◌<◌, Bool, true, false, List, [], ◌∷◌, ◌++◌, length}
use Rattle.std.specs.Prelude.{Option, Some, None, slice_get, slice_index_or, ⊤}
use Rattle.std.specs.List.{filter}
use Rattle.std.specs.FinMap.{get, entries}
use Rattle.relations_spec.specs.Sets.{In, Ascends}
use Rattle.prima_base.specs.Columns.{Column}
use Rattle.prima_base.specs.Order.{bytes_cmp}
use Rattle.schema_catalog.specs.Tables.{Tables}
use Rattle.schema_catalog.specs.Databases.{Database}
use Rattle.history_store.specs.Store.{Store, AllBefore}
use Rattle.smo_ops_spec.specs.Evolutions.{schema_after_each, carried_each, one_makes}
use Rattle.smo_ops_types.specs.Commands.{PlainVersion}
use Rattle.smo_ops_spec.specs.Effects.{rows_under}
use Rattle.smo_ops_spec.specs.OneRow.{Relation}
use Rattle.smo_ops_types.specs.Operators.{Operator}
use Rattle.version_groups_tables.specs.declared.made_table.MadeTable.{MadeTable}
use Rattle.version_groups_tables.specs.Stored.{stored_as, stored_names, HasEntry}
use Rattle.version_groups_tables.specs.NewestTables.{rows_stored}
use Rattle.version_groups_tables.specs.Becoming.{Begins}
use Rattle.version_groups_tables.specs.Places.{at_places, AreWithin}
use Rattle.version_groups_tables.specs.Beginning.{BeginsWith, BeginInOrder, ArePlaced}

-- the tables of the next version in the order of their names, at places of their own among all that
-- are stored and those that begin with it: those begin that are made; the others go on from the
-- places that the version before has. Each that begins is as it is to be, and so is what is stored
-- of each
pub record ComeNext (stored : List MadeTable) (before : List ℕ) (is_made : List ℕ → Bool)
    (Is : List ℕ × List Column → MadeTable → Type 0)
    (Has : List ℕ → List Column → Store → Type 0) (next : Tables) (begun : List MadeTable)
    (places : List ℕ) : Type 0 where
  pub begin : BeginInOrder Is (filter (λ (e : List ℕ × List Column). is_made e.0) (entries next))
      begun
  pub placed : ArePlaced stored begun before is_made next places
  pub there : AreWithin places (length stored + length begun)
  pub ordered : Ascends bytes_cmp (stored_names (at_places (stored ++ begun) places))
  pub tables : (name : List ℕ) → HasEntry (Has name) (get next name)
      (stored_as name (at_places (stored ++ begun) places))

-- the same, where each has from the stamp on these rows
abbrev pub AreNext : List MadeTable → List ℕ → ℕ → ℕ → (List ℕ → Bool) → (List ℕ → Relation)
    → Tables → List MadeTable → List ℕ → Type 0
AreNext stored before version stamp is_made rows next begun places =
    ComeNext stored before is_made (BeginsWith version stamp rows)
    (λ name columns store. Begins columns stamp (rows name) store) next begun places

-- a table is stored just where the next version has one; it begins with these rows
abbrev pub BeginsEntry : ℕ → Relation → Option (List Column) → Option Store → Type 0
BeginsEntry stamp rows = HasEntry (λ columns store. Begins columns stamp rows store)

-- the version of this number, and its tables: each has from the stamp on what is carried over the
-- members of the operator
pub record IsEvolved (stored : List MadeTable) (own : List ℕ) (number : ℕ) (before : Tables)
    (database : Database) (stamp : ℕ) (op : List Operator) (inverse : List (List Operator))
    (made : PlainVersion) (begun : List MadeTable) (places : List ℕ) : Type 0 where
  pub version : made ≡ record {
    stamp = stamp;
    op = op;
    inverse = inverse;
    tables =
        schema_after_each before op;
  }
  pub tables : AreNext stored own number stamp (one_makes before op)
      (λ name. rows_under (get (carried_each before op database) name))
      (schema_after_each before op) begun
      places

-- a table of the next version at its place: it is there already, or the last that begins; and what
-- is stored of it is as it is to be
pub record IsNextTable (stored old new : List MadeTable) (place : ℕ) (name : List ℕ) (Has : Store
    → Type 0) : Type 0 where
  pub more : List MadeTable
  pub grown : new ≡ old ++ more
  pub table : MadeTable
  pub at : slice_get (stored ++ new) place ≡ Some table
  pub named : table.name ≡ name
  pub has : Has table.store

-- the table of the next version that is made begins at its place, after those that have begun, and
-- is as it is to be
pub record IsBegun (stored old new : List MadeTable) (place : ℕ) (Is : MadeTable → Type 0) :
    Type 0 where
  pub table : MadeTable
  pub grown : new ≡ old ++ table ∷ []
  pub last : place ≡ length stored + length old
  pub begins : Is table

-- the one that is not goes on at its place, which is one of the version before
pub record IsStill (stored old new : List MadeTable) (before : List ℕ) (place : ℕ) (name : List ℕ) :
    Type 0 where
  pub same : new ≡ old
  pub among : In place before
  pub there : place < length stored
  pub named : (d : MadeTable) → (slice_index_or stored place d).name ≡ name

abbrev pub Comes : Bool → List MadeTable → List MadeTable → List MadeTable → List ℕ → ℕ → List ℕ
    → (MadeTable → Type 0) → Type 0
Comes true stored old new before place name Is = IsBegun stored old new place Is
Comes false stored old new before place name Is = IsStill stored old new before place name

-- each stamp that is stored under a name is earlier
abbrev pub IsEarlier : ℕ → Option Store → Type 0
IsEarlier stamp None = ⊤
IsEarlier stamp (Some store) = AllBefore store stamp

abbrev pub AreEarlier : ℕ → List MadeTable → Type 0
AreEarlier stamp tables = (name : List ℕ) → IsEarlier stamp (stored_as name tables)

-- the rows that are stored under a name at the stamp; none where no table is named
abbrev pub rows_named : ℕ → Option (List ℕ) → List MadeTable → Relation
rows_named stamp None tables = []
rows_named stamp (Some name) tables = rows_stored stamp (stored_as name tables)
