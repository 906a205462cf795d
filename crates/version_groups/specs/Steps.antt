-- What a command does to groups, prepared.
use Rattle.std.specs.Prelude.{◌≡◌, ℕ, ◌+◌, ◌<◌, ◌≤◌, ◌^◌, List, ◌++◌, length, slice_index_or}
use Rattle.std.specs.Prelude.{Option, None, Bool, true, false}
use Rattle.std.specs.List.{filter}
use Rattle.std.specs.FinMap.{get, entries}
use Rattle.relations_spec.specs.Sets.{Ascends}
use Rattle.relations_spec.specs.Spans.{forever}
use Rattle.prima_base.specs.Columns.{Column}
use Rattle.prima_base.specs.Order.{bytes_cmp}
use Rattle.history_store.specs.Change.{PreparedChange}
use Rattle.schema_catalog.specs.Tables.{Tables}
use Rattle.schema_catalog.specs.Databases.{Database}
use Rattle.smo_ops_spec.specs.Accepts.{command_fault}
use Rattle.smo_ops_spec.specs.ValidValues.{BodyHolds}
use Rattle.smo_ops_types.specs.Commands.{PlainBody, changing, evolving, PlainCommand, PlainVersion}
use Rattle.smo_ops_types.specs.Commands.{version_of}
use Rattle.smo_ops_spec.specs.Effects.{rows_under, gained, lost}
use Rattle.smo_ops_spec.specs.Evolutions.{one_makes}
use Rattle.smo_ops_spec.specs.Past.{Past, newest_tables, newest_database, next_version}
use Rattle.smo_ops_spec.specs.Past.{next_database}
use Rattle.version_groups_tables.specs.declared.made_table.MadeTable.{MadeTable}
use Rattle.version_groups_tables.specs.Stored.{stored_as, stored_names}
use Rattle.version_groups_tables.specs.Beginning.{BeginsWith, BeginInOrder, ArePlaced}
use Rattle.version_groups_tables.specs.Evolving.{BeginsEntry}
use Rattle.version_groups_tables.specs.Becoming.{Leads}
use Rattle.version_groups_tables.specs.Places.{at_places, AreWithin}
use Rattle.version_groups.specs.declared.prepared_command.Step.{Step}
use Rattle.version_groups.specs.declared.prepared_command.Step.TheVariants.{Changed, Evolved}
use Rattle.version_groups.specs.Groups.{Kept, newest_places, group_of}

-- a change of each table of the newest version, or none; or the next version, the tables that begin
-- with it, and the places of its own among all
pub data PlainStep : Type 0 where
  changed : List (Option PreparedChange) → PlainStep
  evolved : PlainVersion → List MadeTable → List ℕ → PlainStep

abbrev pub step_of : Step → PlainStep
step_of (Changed prepared) = changed prepared.items
step_of (Evolved version begun places) = evolved (version_of version) begun.items places.items

abbrev pub makes_version : Step → Bool
makes_version (Changed prepared) = false
makes_version (Evolved version begun places) = true

-- from when on it is seen, how many rows are gained and lost, and what is to be done
pub record PlainPreparedCommand : Type 0 where
  pub stamp : ℕ
  pub gained : ℕ
  pub lost : ℕ
  pub step : Step

-- of each table, in turn, a change that leads to what the database has of it from the stamp on
pub record AreChanges (stamp : ℕ) (next : Database) (tables : List MadeTable)
    (prepared : List (Option PreparedChange)) : Type 0 where
  pub count : length prepared ≡ length tables
  pub each : (k : ℕ) → (d : MadeTable) → k < length tables
      → Leads (slice_index_or tables k d).store stamp
      (rows_under (get next (slice_index_or tables k d).name)) (slice_index_or prepared k None)

-- the next version, over the tables before it, with its tables in the order of their names, and the
-- room for it
pub record IsNextVersion (kept : Kept) (before : Tables) (due : PlainVersion) (next : Database)
    (made : PlainVersion) (begun : List MadeTable) (places : List ℕ) : Type 0 where
  pub version : made ≡ due
  pub begin : BeginInOrder (BeginsWith (length kept.versions + 1) due.stamp
      (λ name. rows_under (get next name))) (filter
      (λ (e : List ℕ × List Column). one_makes before due.op e.0) (entries due.tables)) begun
  pub placed : ArePlaced kept.stored begun (newest_places kept) (one_makes before due.op) due.tables
      places
  pub there : AreWithin places (length kept.stored + length begun)
  pub ordered : Ascends bytes_cmp (stored_names (at_places (kept.stored ++ begun) places))
  pub tables : (name : List ℕ) → BeginsEntry due.stamp (rows_under (get next name))
      (get due.tables name) (stored_as name (at_places (kept.stored ++ begun) places))
  pub room : 1 ≤ kept.spare
  pub beginnings : length begun ≤ kept.beginnings
  pub fits : length kept.versions + 1 < 2 ^ 32

abbrev pub IsStep : Kept → Past → ℕ → PlainBody → PlainStep → Type 0
IsStep kept past stamp (changing changes) (changed prepared) =
    AreChanges stamp (next_database (changing changes) past) (group_of kept (length kept.versions))
    prepared
IsStep kept past stamp (changing changes) (evolved version begun places) = ⊥
IsStep kept past stamp (evolving op inverse) (changed prepared) = ⊥
IsStep kept past stamp (evolving op inverse) (evolved version begun places) =
    IsNextVersion kept (newest_tables past) (next_version stamp op inverse past)
    (next_database (evolving op inverse) past) version begun places

-- the command is accepted after the past, its constants are valid values, and what it does was made
-- ready from these groups, which have the room for it
pub record IsPreparedCommand (kept : Kept) (past : Past) (command : PlainCommand)
    (prepared : PlainPreparedCommand) : Type 0 where
  pub accepted : command_fault past command ≡ None
  pub valid : command.stamp < forever
  pub constants : BodyHolds command.body
  pub step : IsStep kept past command.stamp command.body (step_of prepared.step)

-- the rows that the command gains and loses, over all tables; none where it makes a version
abbrev pub rows_gained : Past → PlainBody → ℕ
rows_gained past (changing changes) = gained (newest_database past)
    (next_database (changing changes) past)
rows_gained past (evolving op inverse) = 0

abbrev pub rows_lost : Past → PlainBody → ℕ
rows_lost past (changing changes) = lost (newest_database past)
    (next_database (changing changes) past)
rows_lost past (evolving op inverse) = 0

abbrev pub a_command : ℕ → PlainBody → PlainCommand
a_command stamp body = record { stamp = stamp; body = body }

-- what `prepare` makes of a command that is accepted after the past
pub record Prepares (kept : Kept) (past : Past) (command : PlainCommand)
    (prepared : PlainPreparedCommand) : Type 0 where
  pub ready : IsPreparedCommand kept past command prepared
  pub stamp : prepared.stamp ≡ command.stamp
  pub gained : prepared.gained ≡ rows_gained past command.body
  pub lost : prepared.lost ≡ rows_lost past command.body
