use Rattle.smo_ops_spec.proofs.OneColumns.{dropped_rows}
use Rattle.smo_ops_spec.proofs.operator_laws.drop_column_keeps_the_other_cells.Goals as goal

pub returns : goal.returns
returns c = dropped_rows
