-- What a stored table is from a stamp on, by its relation at each moment.
use Rattle.std.specs.Prelude.{◌≡◌, ℕ, ◌+◌, ◌-◌, ◌<◌, ◌≤◌, List, [], Option, Some, None, length}
use Rattle.std.specs.Prelude.{slice_index_or, ⊤}
use Rattle.relations_spec.specs.Sets.{In}
use Rattle.relations_spec.specs.Spans.{forever}
use Rattle.prima_base.specs.declared.value.Value.{Value}
use Rattle.prima_base.specs.Columns.{Column}
use Rattle.history_store.specs.Store.{Store, weight, relation_at, AllBefore}
use Rattle.history_store.specs.Handing.{written}
use Rattle.history_store.specs.Change.{PreparedChange, IsPrepared, rows_along, rows_after}
use Rattle.smo_ops_spec.specs.OneRow.{Relation}
use Rattle.version_groups_changes.specs.Changing.{IsChange}
use Rattle.version_groups_tables.specs.declared.made_table.MadeTable.{MadeTable}

-- from the stamp on the table has the rows, and before it what it had
pub record Becomes (old new : Store) (stamp : ℕ) (rows : Relation) : Type 0 where
  pub columns : new.columns ≡ old.columns
  pub before : (m : ℕ) → m < stamp → relation_at new m ≡ relation_at old m
  pub from : (m : ℕ) → stamp ≤ m → m < forever → relation_at new m ≡ rows
  pub later : (m : ℕ) → stamp < m → AllBefore new m

-- a table of these columns that has the rows from the stamp on
pub record Begins (its : List Column) (stamp : ℕ) (rows : Relation) (store : Store) : Type 0 where
  pub columns : store.columns ≡ its
  pub from : (m : ℕ) → stamp ≤ m → m < forever → relation_at store m ≡ rows
  pub later : (m : ℕ) → stamp < m → AllBefore store m

-- a change that is ready and has its room, or none
abbrev pub HasRoom : Store → Option PreparedChange → Type 0
HasRoom store None = ⊤
HasRoom store (Some change) = IsPrepared store change × (length change.gained ≤ store.spare)

-- a change that leads to these rows; none where these are the table's rows
abbrev pub Leads : Store → ℕ → Relation → Option PreparedChange → Type 0
Leads store stamp rows None = relation_at store stamp ≡ rows
Leads store stamp rows (Some change) = IsChange store stamp rows change

-- the change is made of a table: it has its name and its lifeline, and each gained row without a
-- partner is a key more, and writes its values; of a row with a partner those are written that
-- differ
pub record IsInstalled (old : MadeTable) (change : PreparedChange) (new : MadeTable) : Type 0 where
  pub name : new.name ≡ old.name
  pub first : new.first ≡ old.first
  pub last : new.last ≡ old.last
  pub becomes : Becomes old.store new.store change.stamp (rows_after old.store change)
  pub keys : length new.store.keys
      ≡ length old.store.keys + (length change.gained - length change.lost)
  pub wide : length old.store.cells ≡ length old.store.columns
  pub count : length new.store.cells ≡ length old.store.cells
  pub written : (f : Value → ℕ) → (k : ℕ) → k < length old.store.columns
      → weight f (slice_index_or new.store.cells k [])
      ≡ weight f (slice_index_or old.store.cells k []) + written f k
      (rows_along change.lost change.stamp old.store.cells) change.gained

-- the change is made; where there is none the table is as it was
abbrev pub IsMade : MadeTable → Option PreparedChange → MadeTable → Type 0
IsMade old None new = new ≡ old
IsMade old (Some change) new = IsInstalled old change new

-- one of these changes, or none
abbrev pub IsAmong : Option PreparedChange → List (Option PreparedChange) → Type 0
IsAmong None prepared = ⊤
IsAmong (Some change) prepared = In (Some change) prepared

-- one of the changes is made of it, or none
pub record IsMadeBy (prepared : List (Option PreparedChange)) (old new : MadeTable) : Type 0 where
  pub change : Option PreparedChange
  pub among : IsAmong change prepared
  pub made : IsMade old change new

pub record AreMadeBy (prepared : List (Option PreparedChange)) (old new : List MadeTable) :
    Type 0 where
  pub count : length new ≡ length old
  pub each : (k : ℕ) → (d : MadeTable) → k < length old
      → IsMadeBy prepared (slice_index_or old k d) (slice_index_or new k d)
