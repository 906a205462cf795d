-- The versions, and the stored tables of each.
use Rattle.std.specs.Prelude.{ℕ, List, [], length, map, Option, slice_get, slice_index_or}
use Rattle.std.specs.Option.{option_map}
use Rattle.smo_ops_types.specs.declared.version.Version.{Version}
use Rattle.history_store.specs.Store.{Store}
use Rattle.smo_ops_types.specs.Commands.{PlainVersion, version_of}
use Rattle.version_groups_tables.specs.declared.made_table.MadeTable.{MadeTable}
use Rattle.version_groups_tables.specs.Places.{at_places}
use Rattle.version_groups_tables.specs.Stored.{stored_as}

-- versions 1 to the newest; the stored tables, in the order in which they begin, each kept once
-- over all versions in which no member of an operator makes or consumes it; of each version, those
-- of version 0 first, the places of its tables among them; and how many versions more, and how many
-- tables, there is room for
pub record Kept : Type 0 where
  pub versions : List Version
  pub stored : List MadeTable
  pub places : List (List ℕ)
  pub spare : ℕ
  pub beginnings : ℕ

abbrev pub versions_in : Kept → List PlainVersion
versions_in kept = map version_of kept.versions

-- the places of the tables of version k
abbrev pub places_of : Kept → ℕ → List ℕ
places_of kept k = slice_index_or kept.places k []

abbrev pub newest_places : Kept → List ℕ
newest_places kept = places_of kept (length kept.versions)

-- the stored tables of version k
abbrev pub group_of : Kept → ℕ → List MadeTable
group_of kept k = at_places kept.stored (places_of kept k)

-- the stored tables of the newest version
abbrev pub newest_group : Kept → List MadeTable
newest_group kept = group_of kept (length kept.versions)

-- what is stored over the lifeline of this number
abbrev pub stored_at : Kept → ℕ → Option Store
stored_at kept p = option_map (λ (t : MadeTable). t.store) (slice_get kept.stored p)

-- the stored table of version k under the name
abbrev pub table_in : Kept → ℕ → List ℕ → Option Store
table_in kept k name = stored_as name (group_of kept k)
