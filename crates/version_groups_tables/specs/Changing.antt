-- The changes of a command, table by table.
use Rattle.std.specs.Prelude.{◌≡◌, ℕ, ◌+◌, ◌<◌, List, [], ◌∷◌, map, length, Option, Some, None}
use Rattle.std.specs.Prelude.{slice_index_or}
use Rattle.std.specs.FinMap.{entries}
use Rattle.schema_catalog.specs.Tables.{Tables}
use Rattle.history_store.specs.Store.{AllBefore, relation_at}
use Rattle.history_store.specs.Change.{PreparedChange}
use Rattle.smo_ops_types.specs.Changes.{PlainChange}
use Rattle.smo_ops_spec.specs.Effects.{gained_rows}
use Rattle.smo_ops_spec.specs.Inserting.{relation_after_each}
use Rattle.smo_ops_spec.specs.OneRow.{Relation}
use Rattle.version_groups_changes.specs.Changing.{AreAccepted}
use Rattle.version_groups_tables.specs.declared.made_table.MadeTable.{MadeTable}
use Rattle.version_groups_tables.specs.Becoming.{HasRoom, Leads, IsMade}
use Rattle.version_groups_tables.specs.Grouping.{of_table}

-- the rows of a table at the stamp, after changes of it, and after those of the command's changes
-- that are of it
abbrev pub rows_now : ℕ → MadeTable → Relation
rows_now stamp table = relation_at table.store stamp

abbrev pub rows_after_own : ℕ → List PlainChange → MadeTable → Relation
rows_after_own stamp own table = relation_after_each table.store.columns own (rows_now stamp table)

abbrev pub rows_after : ℕ → List PlainChange → MadeTable → Relation
rows_after stamp changes table = rows_after_own stamp (of_table table.name changes) table

-- these changes of it are accepted, and each of its stamps is earlier
pub record IsChangeable (stamp : ℕ) (own : List PlainChange) (table : MadeTable) : Type 0 where
  pub accepted : AreAccepted table.store.columns own
  pub before : AllBefore table.store stamp

abbrev pub AreChangeable : ℕ → List PlainChange → List MadeTable → Type 0
AreChangeable stamp changes made = (k : ℕ) → (d : MadeTable) → k < length made
    → IsChangeable stamp (of_table (slice_index_or made k d).name changes)
    (slice_index_or made k d)

-- the tables of the schema are these, each with its columns, in the order of their names
abbrev pub AreOfSchema : Tables → List MadeTable → Type 0
AreOfSchema tables made = entries tables
    ≡ map (λ (table : MadeTable). (table.name, table.store.columns)) made

-- of each table, in turn, a change that leads to the rows after its changes
pub record ArePrepared (stamp : ℕ) (changes : List PlainChange) (tables : List MadeTable)
    (prepared : List (Option PreparedChange)) : Type 0 where
  pub count : length prepared ≡ length tables
  pub each : (k : ℕ) → (d : MadeTable) → k < length tables
      → Leads (slice_index_or tables k d).store stamp
      (rows_after stamp changes (slice_index_or tables k d)) (slice_index_or prepared k None)

-- each change is ready and has its room
pub record HaveRoom (tables : List MadeTable) (prepared : List (Option PreparedChange)) :
    Type 0 where
  pub count : length prepared ≡ length tables
  pub each : (k : ℕ) → (d : MadeTable) → k < length tables
      → HasRoom (slice_index_or tables k d).store (slice_index_or prepared k None)

-- each table has its change
pub record AreMade (old : List MadeTable) (prepared : List (Option PreparedChange))
    (new : List MadeTable) : Type 0 where
  pub count : length new ≡ length old
  pub each : (k : ℕ) → (d : MadeTable) → k < length old
      → IsMade (slice_index_or old k d) (slice_index_or prepared k None) (slice_index_or new k d)

-- the rows that the tables gain and lose
abbrev pub all_gained : ℕ → List PlainChange → List MadeTable → ℕ
all_gained stamp changes [] = 0
all_gained stamp changes (t ∷ tables) = length
    (gained_rows (rows_now stamp t) (rows_after stamp changes t)) + all_gained stamp changes tables

abbrev pub all_lost : ℕ → List PlainChange → List MadeTable → ℕ
all_lost stamp changes [] = 0
all_lost stamp changes (t ∷ tables) = length (gained_rows (rows_after stamp changes t)
    (rows_now stamp t)) + all_lost stamp changes tables

-- the rows that one change gains and loses; none where there is no change
abbrev pub gained_by : Option PreparedChange → ℕ
gained_by None = 0
gained_by (Some change) = length change.gained

abbrev pub lost_by : Option PreparedChange → ℕ
lost_by None = 0
lost_by (Some change) = length change.lost
