use Rattle.smo_ops_spec.proofs.TouchedTables.{table_gone, entry_gone, consumed_is_there}
use Rattle.smo_ops_spec.proofs.operator_laws.consumed_tables_are_gone.Goals as goal

pub returns-clause-schema : goal.returns-clause-schema
returns-clause-schema c tables op n u e = table_gone tables op n u e

pub returns-clause-database : goal.returns-clause-database
returns-clause-database c tables op database n u e = entry_gone tables op n u database e

pub returns-clause-before : goal.returns-clause-before
returns-clause-before c = consumed_is_there
