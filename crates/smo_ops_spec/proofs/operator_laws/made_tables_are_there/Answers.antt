use Rattle.smo_ops_spec.proofs.TouchedTables.{made_is_there, made_is_migrated, made_is_free}
use Rattle.smo_ops_spec.proofs.operator_laws.made_tables_are_there.Goals as goal

pub returns-clause-schema : goal.returns-clause-schema
returns-clause-schema c = made_is_there

pub returns-clause-database : goal.returns-clause-database
returns-clause-database c = made_is_migrated

pub returns-clause-free : goal.returns-clause-free
returns-clause-free c = made_is_free
