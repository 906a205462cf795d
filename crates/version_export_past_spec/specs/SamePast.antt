-- A past that shows in its one version what another past shows in one of its versions.
use Rattle.std.specs.Prelude.{◌≡◌, ℕ, List}
use Rattle.smo_ops_types.specs.Commands.{PlainCommand}
use Rattle.smo_ops_spec.specs.Past.{Past, tables_of, version_at}
use Rattle.smo_ops_spec.specs.History.{past_after, AllAccepted}
use Rattle.smo_ops_spec.specs.ValidPast.{IsPast}
use Rattle.smo_ops_versions_spec.specs.Migration.{migrated}
use Rattle.smo_ops_versions_spec.specs.ColumnLosses.{NothingLost}
use Rattle.smo_ops_versions_spec.specs.LostNames.{lost_names}

-- the commands are accepted after `created`, one after the other, and make a past whose version 1
-- has the tables of the other's version, and the same database at each moment; nothing is lost there
pub record ShowsTheSame (created : Past) (commands : List PlainCommand) (other : Past) (version : ℕ)
    : Type 0 where
  pub accepted : AllAccepted created commands
  pub valid : IsPast (past_after created commands)
  pub versions : (past_after created commands).versions ≡ created.versions
  pub tables : tables_of (past_after created commands) 1 ≡ tables_of other version
  pub shows : (m : ℕ) → migrated (past_after created commands) m 1 ≡ migrated other m version
  pub kept : (m : ℕ) → NothingLost (lost_names (past_after created commands).versions
      (version_at (past_after created commands) m) 1)
