-- Databases along a way on which dropped columns are filled by any constants.
use Rattle.std.specs.Prelude.{ℕ, List}
use Rattle.prima_base.specs.declared.value.Value.{Value}
use Rattle.prima_base.specs.declared.value.ColType.{ColType}
use Rattle.schema_catalog.specs.Databases.{Database}
use Rattle.smo_ops_types.specs.Commands.{PlainVersion}
use Rattle.smo_ops_spec.specs.OneRow.{Relation}
use Rattle.smo_ops_spec.specs.Past.{Past, version_at, tables_of, database_at}
use Rattle.smo_ops_versions_spec.specs.Steps.{taken}
use Rattle.smo_ops_versions_spec.specs.Ways.{way}
use Rattle.smo_ops_versions_spec.specs.Migration.{stepped_with}
use Rattle.plain_answers_spec.specs.Branches.{plain}
use Rattle.temporal_lang_types.specs.Queries.{PlainQuery}
use Rattle.temporal_lang_spec.specs.Losing.{query_asked}

-- the database of version v, migrated to version q, where each dropped column is filled with the
-- constant of its type
abbrev pub migrated_with : (ColType → Value) → List PlainVersion → ℕ → ℕ → Database → Database
migrated_with constants versions v q db = taken (stepped_with constants) (way versions v q) db

-- what a query asks of a moment over such a database
abbrev pub asked_with : (ColType → Value) → Past → PlainQuery → ℕ → Relation
asked_with constants past query m = plain (tables_of past query.version)
    (query_asked past query).branches
    (migrated_with constants past.versions (version_at past m) query.version (database_at past m))
