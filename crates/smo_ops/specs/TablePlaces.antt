-- Where the tables of changes stand in a schema.
use Rattle.std.specs.Prelude.{◌≡◌, ℕ, List, Some, map}
use Rattle.schema_catalog.specs.Tables.{Tables, name_at}
use Rattle.smo_ops_types.specs.Changes.{PlainChange, table_of}

-- at the place that is told of each change, from 0 in the order of names, stands its table
abbrev pub StandAt : Tables → List PlainChange → List ℕ → Type 0
StandAt tables changes places = map (name_at tables) places
    ≡ map (λ change. Some (table_of change)) changes
