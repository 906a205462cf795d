-- Groups that are made again of their versions and of what is stored over each lifeline.
use Rattle.std.specs.Prelude.{◌≡◌, ◌≤◌, ◌<◌, ℕ, List, map, length, Some}
use Rattle.std.specs.FinMap.{get}
use Rattle.prima_base.specs.Columns.{Column}
use Rattle.history_store.specs.Store.{Store, relation_at}
use Rattle.relations_spec.specs.Spans.{forever}
use Rattle.smo_ops_spec.specs.Effects.{rows_under}
use Rattle.smo_ops_spec.specs.ValidPast.{last_or_nought, IsPast}
use Rattle.smo_ops_spec.specs.ValidValues.{PastHolds}
use Rattle.smo_ops_spec.specs.Past.{Past, no_tables, tables_from, database_at}
use Rattle.version_groups_tables.specs.Restoring.{HasColumns}
use Rattle.version_groups_tables.specs.Stored.{HasEntry}
use Rattle.version_groups.specs.Covering.{AreOfLifelines}
use Rattle.version_groups.specs.Groups.{Kept, versions_in, table_in}
use Rattle.version_groups.specs.Representation.{IsInForce, AreUpTo}
use Rattle.version_groups.specs.Sizes.{HaveSizes}

abbrev pub store_columns : List Store → List (List Column)
store_columns stores = map (λ (s : Store). s.columns) stores

-- one table is stored for each lifeline of the versions, and a version's table is the one whose
-- lifeline covers it; a table is stored just where the version has one, with its columns
pub record AreRestored (kept : Kept) : Type 0 where
  pub lifelines : AreOfLifelines kept
  pub tables : (k : ℕ) → (name : List ℕ) → k ≤ length kept.versions
      → HasEntry (HasColumns name) (get (tables_from no_tables (versions_in kept) k) name)
      (table_in kept k name)

-- a valid past with these versions, whose database at each moment is what is stored of the tables
-- of the version then in force, and whose sizes say how much is stored; no stamp that is stored is
-- later than its last
pub record IsPastOf (kept : Kept) (past : Past) : Type 0 where
  pub valid : IsPast past
  pub values : PastHolds past
  pub ends : last_or_nought past.last < forever
  pub versions : versions_in kept ≡ past.versions
  pub databases : (k : ℕ) → (name : List ℕ) → (store : Store) → (m : ℕ)
      → table_in kept k name ≡ Some store → IsInForce past.versions k m
      → relation_at store m ≡ rows_under (get (database_at past m) name)
  pub stamps : AreUpTo past.last kept.stored
  pub sizes : HaveSizes past.sizes kept.stored
