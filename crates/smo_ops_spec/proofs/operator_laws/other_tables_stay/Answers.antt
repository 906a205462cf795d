use Rattle.smo_ops_spec.proofs.TouchedTables.{table_stays, entry_stays}
use Rattle.smo_ops_spec.proofs.operator_laws.other_tables_stay.Goals as goal

pub returns-clause-schema : goal.returns-clause-schema
returns-clause-schema c tables op n u e = table_stays tables op n u e

pub returns-clause-database : goal.returns-clause-database
returns-clause-database c tables op database n u e = entry_stays tables op n u database e
