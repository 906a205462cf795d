use Rattle.smo_ops_spec.proofs.WholeTables.{copied_columns, copied_rows, original_columns}
use Rattle.smo_ops_spec.proofs.WholeTables.{original_rows}
use Rattle.smo_ops_spec.proofs.operator_laws.copy_keeps_the_rows.Goals as goal

pub returns-clause-schema : goal.returns-clause-schema
returns-clause-schema c tables r t e = (copied_columns tables r t e, original_columns tables r t e)

pub returns-clause-database : goal.returns-clause-database
returns-clause-database c tables r t database e h =
    (copied_rows tables r t e database h, original_rows tables r t e database)
