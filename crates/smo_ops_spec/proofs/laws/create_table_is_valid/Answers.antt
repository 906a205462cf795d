use Rattle.smo_ops_types.specs.Operators.{create_table}
use Rattle.smo_ops_spec.proofs.CreatedTables.{created_database}
use Rattle.smo_ops_spec.proofs.NextSchemas.{next_is_valid}
use Rattle.smo_ops_spec.proofs.laws.create_table_is_valid.Goals as goal

pub returns-clause-schema : goal.returns-clause-schema
returns-clause-schema c = λ tables r columns h e. next_is_valid tables (create_table r columns) h e

pub returns-clause-database : goal.returns-clause-database
returns-clause-database c = created_database
