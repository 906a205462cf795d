use Rattle.smo_ops_spec.proofs.OneColumns.{renamed_column_rows}
use Rattle.smo_ops_spec.proofs.operator_laws.rename_column_keeps_the_cells.Goals as goal

pub returns : goal.returns
returns c tables b r new database rows made = renamed_column_rows tables new r database rows made b
