-- When groups represent a past.
use Rattle.std.specs.Prelude.{◌≡◌, ℕ, ◌<◌, ◌≤◌, List, Option, Some, None, length, ⊤, slice_index_or}
use Rattle.std.specs.FinMap.{get}
use Rattle.relations_spec.specs.Spans.{forever}
use Rattle.prima_base.specs.Columns.{Column}
use Rattle.history_store.specs.Store.{Store, AllBefore, relation_at}
use Rattle.smo_ops_types.specs.Commands.{PlainVersion}
use Rattle.smo_ops_spec.specs.Effects.{rows_under}
use Rattle.smo_ops_spec.specs.InForce.{in_force}
use Rattle.smo_ops_spec.specs.ValidPast.{last_or_nought, IsLater, IsPast}
use Rattle.smo_ops_spec.specs.ValidValues.{PastHolds}
use Rattle.smo_ops_spec.specs.Past.{Past, tables_of, database_at}
use Rattle.version_groups_tables.specs.declared.made_table.MadeTable.{MadeTable}
use Rattle.version_groups.specs.Covering.{AreOfLifelines}
use Rattle.version_groups.specs.Groups.{Kept, versions_in, table_in}
use Rattle.version_groups.specs.Sizes.{HaveSizes}

-- version k is in force at the moment
abbrev pub IsInForce : List PlainVersion → ℕ → ℕ → Type 0
IsInForce versions k m = ((in_force versions k).start ≤ m) × (m < (in_force versions k).end)

-- what is stored of a table of version k: its columns; and of each moment at which the version is
-- in force, and of no other, its relation, and where the moment is later than the last stamp, that
-- each stamp in it is earlier
pub record RepresentsTable (past : Past) (k : ℕ) (name : List ℕ) (its : List Column)
    (store : Store) :
    Type 0 where
  pub columns : store.columns ≡ its
  pub shown : (m : ℕ) → IsInForce past.versions k m
      → relation_at store m ≡ rows_under (get (database_at past m) name)
  pub stamps : (m : ℕ) → IsInForce past.versions k m → IsLater past.last m → AllBefore store m

-- a table is stored just where the version has one
abbrev pub RepresentsEntry : Past → ℕ → List ℕ → Option (List Column) → Option Store → Type 0
RepresentsEntry past k name None None = ⊤
RepresentsEntry past k name None (Some store) = ⊥
RepresentsEntry past k name (Some columns) None = ⊥
RepresentsEntry past k name (Some columns) (Some store) = RepresentsTable past k name columns store

-- no stamp in the tables is later than the last
abbrev pub AreUpTo : Option ℕ → List MadeTable → Type 0
AreUpTo last tables = (p : ℕ) → (t : MadeTable) → (m : ℕ) → p < length tables → IsLater last m
    → AllBefore (slice_index_or tables p t).store m

-- the past is valid and holds valid values; the versions are those of the past, and so is each
-- table of each version at each moment at which it is in force; one table is stored for each
-- lifeline, as much of it as the past's sizes say, and a version's table is the one whose lifeline
-- covers it; and no stamp that is stored is later than the past's last
pub record Represents (kept : Kept) (past : Past) : Type 0 where
  pub valid : IsPast past
  pub values : PastHolds past
  pub ends : last_or_nought past.last < forever
  pub versions : versions_in kept ≡ past.versions
  pub tables : (k : ℕ) → (name : List ℕ) → k ≤ length past.versions
      → RepresentsEntry past k name (get (tables_of past k) name) (table_in kept k name)
  pub sizes : HaveSizes past.sizes kept.stored
  pub lifelines : AreOfLifelines kept
  pub stamps : AreUpTo past.last kept.stored
