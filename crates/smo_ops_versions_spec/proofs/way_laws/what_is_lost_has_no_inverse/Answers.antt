use Rattle.smo_ops_versions_spec.proofs.LossCauses.{table_cause, column_cause}
use Rattle.smo_ops_versions_spec.proofs.way_laws.what_is_lost_has_no_inverse.Goals as goal

pub returns-clause-table : goal.returns-clause-table
returns-clause-table c = table_cause

pub returns-clause-column : goal.returns-clause-column
returns-clause-column c = column_cause
