-- Databases on the way from one version to another.
use Rattle.std.specs.Prelude.{ℕ, List, [], ◌∷◌}
use Rattle.std.specs.FinMap.{insert}
use Rattle.prima_base.specs.declared.value.Value.{Value}
use Rattle.prima_base.specs.declared.value.ColType.{ColType}
use Rattle.schema_catalog.specs.Tables.{Tables}
use Rattle.schema_catalog.specs.Databases.{Lost, Database}
use Rattle.smo_ops_types.specs.Operators.{Operator}
use Rattle.smo_ops_types.specs.Commands.{PlainVersion}
use Rattle.smo_ops_spec.specs.OperatorTable.{line, made_names}
use Rattle.smo_ops_spec.specs.After.{migrate, lose_all}
use Rattle.smo_ops_spec.specs.Losses.{Loss}
use Rattle.smo_ops_spec.specs.Past.{Past, version_at, database_at}
use Rattle.smo_ops_versions_spec.specs.Steps.{Step, carrying, filling, undoing, carrying_each}
use Rattle.smo_ops_versions_spec.specs.Steps.{taken}
use Rattle.smo_ops_spec.specs.WaysBack.{blank, filled_with}
use Rattle.smo_ops_versions_spec.specs.Ways.{to_next, from_next, way}

-- these have this loss
abbrev pub lost_by : Loss → List (List ℕ) → Database → Database
lost_by loss [] db = db
lost_by loss (n ∷ names) db = lost_by loss names (insert db n (Lost loss.0 loss.1))

-- back over an operator where nothing leads back: the tables that it made are gone, then those that
-- it consumed are lost, and all others stay
abbrev pub undone : Loss → Tables → Operator → Database → Database
undone loss before op db =
    lost_by loss (line before op).consumed (lose_all (made_names (line before op).made) db)

-- a database over one step, where a dropped column is filled with the constant of its type
abbrev pub stepped_with : (ColType → Value) → Step → Database → Database
stepped_with constants (carrying tables op) db = migrate tables op db
stepped_with constants (filling loss tables f) db = migrate tables (filled_with constants f) db
stepped_with constants (undoing loss before op) db = undone loss before op db

abbrev pub stepped : Step → Database → Database
stepped = stepped_with blank

-- a database carried over operators, first to last
abbrev pub migrate_over : Tables → List Operator → Database → Database
migrate_over tables ops db = taken stepped (carrying_each tables ops) db

-- from version k to the next, and from the next back to version k
abbrev pub migrate_along : List PlainVersion → ℕ → Database → Database
migrate_along versions k db = taken stepped (to_next versions k) db

abbrev pub back : List PlainVersion → ℕ → Database → Database
back versions k db = taken stepped (from_next versions k) db

-- the database of version v, migrated to version q
abbrev pub migrated_from : List PlainVersion → ℕ → ℕ → Database → Database
migrated_from versions v q db = taken stepped (way versions v q) db

-- the database of a moment, migrated to version q from the one then in force
abbrev pub migrated : Past → ℕ → ℕ → Database
migrated past m q = migrated_from past.versions (version_at past m) q (database_at past m)
