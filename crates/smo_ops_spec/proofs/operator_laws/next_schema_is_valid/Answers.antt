use Rattle.smo_ops_spec.proofs.NextSchemas.{next_is_valid}
use Rattle.smo_ops_spec.proofs.operator_laws.next_schema_is_valid.Goals as goal

pub returns : goal.returns
returns c = next_is_valid
