-- Databases without rows, and the past of a version whose tables have none.
use Rattle.std.specs.Prelude.{◌≡◌, ◌≤◌, ℕ, List, [], ◌∷◌}
use Rattle.std.specs.FinMap.{get}
use Rattle.schema_catalog.specs.Tables.{Tables}
use Rattle.schema_catalog.specs.Databases.{Database}
use Rattle.smo_ops_types.specs.Commands.{PlainVersion}
use Rattle.smo_ops_spec.specs.Effects.{rows_under}
use Rattle.smo_ops_spec.specs.Past.{Past, database_at}
use Rattle.smo_ops_spec.specs.ValidPast.{IsPast, last_or_nought}

-- under no name there is a row
abbrev pub IsBlank : Database → Type 0
IsBlank db = (n : List ℕ) → rows_under (get db n) ≡ []

-- a past of one version, of this stamp, that has just these tables, and no row at any moment
pub record IsCreated (tables : Tables) (stamp : ℕ) (past : Past) : Type 0 where
  pub valid : IsPast past
  pub version : PlainVersion
  pub versions : past.versions ≡ version ∷ []
  pub begins : version.stamp ≡ stamp
  pub has : version.tables ≡ tables
  pub last : last_or_nought past.last ≤ stamp
  pub blank : (m : ℕ) → IsBlank (database_at past m)
