-- What installing makes of groups.
use Rattle.std.specs.Prelude.{◌≡◌, ℕ, ◌+◌, ◌<◌, ◌≤◌, List, [], ◌∷◌, ◌++◌, length, map, Option}
use Rattle.std.specs.Prelude.{Some, None, slice_index_or, ⊤}
use Rattle.relations_spec.specs.Sets.{In, Ascends}
use Rattle.prima_base.specs.Order.{bytes_cmp}
use Rattle.history_store.specs.Store.{Store, relation_at}
use Rattle.history_store.specs.Change.{PreparedChange}
use Rattle.schema_catalog.specs.Tables.{Tables}
use Rattle.smo_ops_types.specs.declared.version.Version.{Version}
use Rattle.smo_ops_types.specs.Operators.{evolution_of}
use Rattle.smo_ops_types.specs.Commands.{PlainVersion}
use Rattle.smo_ops_spec.specs.Past.{no_tables, newest_from}
use Rattle.smo_ops_spec.specs.Evolutions.{one_consumes}
use Rattle.version_groups_tables.specs.declared.made_table.MadeTable.{MadeTable}
use Rattle.version_groups_tables.specs.Stored.{stored_as, stored_names}
use Rattle.version_groups_tables.specs.Becoming.{AreMadeBy}
use Rattle.version_groups_tables.specs.Ending.{AreLiving, table_after}
use Rattle.version_groups_tables.specs.Changing.{AreMade}
use Rattle.version_groups_tables.specs.Places.{at_places, AreWithin}
use Rattle.version_groups.specs.Groups.{Kept, versions_in, newest_places, group_of, newest_group}
use Rattle.version_groups.specs.Groups.{table_in}
use Rattle.version_groups.specs.declared.prepared_command.Step.{Step}
use Rattle.version_groups.specs.declared.prepared_command.Step.TheVariants.{Changed, Evolved}
use Rattle.version_groups.specs.Covering.{line_of, AreOfLifelines}
use Rattle.version_groups.specs.Lifelines.{line_begun, made_tables}
use Rattle.version_groups.specs.Representation.{IsInForce}

-- it has the columns that it had, and at each moment at which version k is in force the relation
-- that it had
pub record Stays (versions : List PlainVersion) (k : ℕ) (old new : Store) : Type 0 where
  pub columns : new.columns ≡ old.columns
  pub relation : (m : ℕ) → IsInForce versions k m → relation_at new m ≡ relation_at old m

-- a table is stored just where one was
abbrev pub StaysEntry : List PlainVersion → ℕ → Option Store → Option Store → Type 0
StaysEntry versions k None None = ⊤
StaysEntry versions k None (Some new) = ⊥
StaysEntry versions k (Some old) None = ⊥
StaysEntry versions k (Some old) (Some new) = Stays versions k old new

-- each table of each version before the one that is now the newest stays at the moments at which
-- its version is in force
abbrev pub HasEarlier : Kept → Kept → Type 0
HasEarlier kept new = (k : ℕ) → k < length new.versions → (name : List ℕ)
    → StaysEntry (versions_in new) k (table_in kept k name) (table_in new k name)

-- the changes are made of the tables of the newest version, some of which earlier versions may have
-- too, and of no other
pub record HasChanges (kept new : Kept) (prepared : List (Option PreparedChange)) : Type 0 where
  pub versions : new.versions ≡ kept.versions
  pub places : new.places ≡ kept.places
  pub there : AreWithin (newest_places kept) (length kept.stored)
  pub ordered : Ascends bytes_cmp (stored_names (newest_group kept))
  pub stored : length new.stored ≡ length kept.stored
  pub lines : map line_of new.stored ≡ map line_of kept.stored
  pub others : (p : ℕ) → (d : MadeTable) → (In p (newest_places kept) → ⊥)
      → slice_index_or new.stored p d ≡ slice_index_or kept.stored p d
  pub groups : (k : ℕ) → k < length kept.versions
      → AreMadeBy prepared (group_of kept k) (group_of new k)
  pub made : AreMade (newest_group kept) prepared (group_of new (length kept.versions))

-- one version more, with tables that begin and the places of its own; the lifelines of the tables
-- that its operator consumes, over any schema, end
pub record HasVersion (kept new : Kept) (made : Version) (begun : List MadeTable)
    (places : List ℕ) : Type 0 where
  pub versions : new.versions ≡ kept.versions ++ made ∷ []
  pub newest : newest_places new ≡ places
  pub stored : (before : Tables) → new.stored
      ≡ map (table_after (one_consumes before (evolution_of made.op)) (length kept.versions))
      kept.stored
      ++ begun
  pub tables : (k : ℕ) → (name : List ℕ) → k ≤ length kept.versions
      → table_in new k name ≡ table_in kept k name
  pub own : (name : List ℕ) → table_in new (length kept.versions + 1) name
      ≡ stored_as name (at_places (kept.stored ++ begun) places)
  pub lifelines : AreOfLifelines new

-- the tables that begin with the next version are those that its operator makes, and of all that
-- are stored then those at these places live
pub record ComeWith (kept : Kept) (made : Version) (begun : List MadeTable) (places : List ℕ) :
    Type 0 where
  pub lines : map line_of begun ≡ map (line_begun (length kept.versions + 1))
      (made_tables (newest_from no_tables (versions_in kept)) (evolution_of made.op) made.schema)
  pub living : AreLiving (map (table_after (one_consumes (newest_from no_tables (versions_in kept))
      (evolution_of made.op)) (length kept.versions)) kept.stored ++ begun) places

-- what installing a step makes of the groups
abbrev pub HasStep : Kept → Kept → Step → Type 0
HasStep kept new (Changed prepared) = HasChanges kept new prepared.items
HasStep kept new (Evolved version begun places) =
    HasVersion kept new version begun.items places.items
