use Rattle.smo_ops_spec.proofs.MigratedDatabases.{migrated_database, migrated_with_losses}
use Rattle.smo_ops_spec.proofs.operator_laws.migrated_database_is_of_the_next_schema.Goals as goal

pub returns-clause-whole : goal.returns-clause-whole
returns-clause-whole c = migrated_database

pub returns-clause-losses : goal.returns-clause-losses
returns-clause-losses c = migrated_with_losses
