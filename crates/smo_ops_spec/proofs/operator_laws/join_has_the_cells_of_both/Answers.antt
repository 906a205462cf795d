use Rattle.smo_ops_spec.proofs.JoinedRows.{joined_rows}
use Rattle.smo_ops_spec.proofs.operator_laws.join_has_the_cells_of_both.Goals as goal

pub returns : goal.returns
returns c = joined_rows
