use Rattle.smo_ops_spec.proofs.WholeTables.{partition_parts}
use Rattle.smo_ops_spec.proofs.operator_laws.partition_is_in_two_parts.Goals as goal

pub returns : goal.returns
returns c = partition_parts
