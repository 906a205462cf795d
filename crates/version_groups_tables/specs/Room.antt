-- Tables that are as they were, with no less room.
use Rattle.std.specs.Prelude.{◌≡◌, ℕ, ◌<◌, ◌≤◌, List, length, slice_index_or}
use Rattle.version_groups_tables.specs.declared.made_table.MadeTable.{MadeTable}

-- the same lifeline, columns, keys and entries; indexes of columns may have come
pub record IsSameTable (old new : MadeTable) : Type 0 where
  pub name : new.name ≡ old.name
  pub first : new.first ≡ old.first
  pub last : new.last ≡ old.last
  pub store : new.store ≡ record old.store { spare = new.store.spare; indexed = new.store.indexed }
  pub spare : old.store.spare ≤ new.store.spare

-- the same tables, one by one
pub record AreSameTables (old new : List MadeTable) : Type 0 where
  pub count : length new ≡ length old
  pub each : (k : ℕ) → (d : MadeTable) → k < length old
      → IsSameTable (slice_index_or old k d) (slice_index_or new k d)
