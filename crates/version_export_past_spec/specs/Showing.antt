-- What a version shows at each moment of a past: its migrated databases, and the moments at which
-- they may change.
use Rattle.std.specs.Prelude.{◌≡◌, ℕ, List, map, nat_lt, None, slice_get}
use Rattle.std.specs.List.{filter}
use Rattle.std.specs.FinMap.{entries, get}
use Rattle.relations_spec.specs.Sets.{In}
use Rattle.schema_catalog.specs.Places.{NamedColumns}
use Rattle.schema_catalog.specs.Databases.{Database}
use Rattle.smo_ops_spec.specs.Past.{State, Past, tables_of, version_at}
use Rattle.smo_ops_spec.specs.InForce.{stamp_of}
use Rattle.smo_ops_versions_spec.specs.Migration.{migrated}
use Rattle.smo_ops_versions_spec.specs.LostTables.{lost_tables}

-- the moment of version 1
abbrev pub first_stamp : Past → ℕ
first_stamp past = stamp_of (slice_get past.versions 0)

-- the version's database at a moment
abbrev pub shown_by : Past → ℕ → ℕ → Database
shown_by past version m = migrated past m version

-- the tables of a version, in the order of their names
abbrev pub tables_in : Past → ℕ → List NamedColumns
tables_in past version = entries (tables_of past version)

-- the moments after version 1's at which a state begins: at no other moment does a row of any
-- version begin or end to hold
abbrev pub later_moments : ℕ → List State → List ℕ
later_moments first states = filter (λ m. nat_lt first m) (map (λ (s : State). s.stamp) states)

-- none of the version's tables is lost at this moment, by names alone
abbrev pub NoneLost : Past → ℕ → ℕ → Type 0
NoneLost past version m = (t : NamedColumns) → In t (tables_in past version)
    → get (lost_tables past.versions (version_at past m) version) t.0 ≡ None
