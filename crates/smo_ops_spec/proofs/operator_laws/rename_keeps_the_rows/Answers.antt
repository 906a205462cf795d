use Rattle.smo_ops_spec.proofs.WholeTables.{renamed_columns, renamed_rows}
use Rattle.smo_ops_spec.proofs.operator_laws.rename_keeps_the_rows.Goals as goal

pub returns-clause-schema : goal.returns-clause-schema
returns-clause-schema c = renamed_columns

pub returns-clause-database : goal.returns-clause-database
returns-clause-database c tables r t database e h = renamed_rows tables r t e database h
