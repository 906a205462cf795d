use Rattle.smo_ops_spec.proofs.OneColumns.{added_rows}
use Rattle.smo_ops_spec.proofs.operator_laws.add_column_keeps_the_cells.Goals as goal

pub returns : goal.returns
returns c tables column r e database rows made = added_rows tables column r database rows made e
