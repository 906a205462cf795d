use Rattle.smo_ops_spec.proofs.LossLaws.{created_empty}
use Rattle.smo_ops_spec.proofs.operator_laws.created_table_is_empty.Goals as goal

pub returns : goal.returns
returns c = created_empty
