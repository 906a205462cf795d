use Rattle.smo_ops_spec.proofs.LossLaws.{losses_handed_on}
use Rattle.smo_ops_spec.proofs.operator_laws.losses_are_handed_on.Goals as goal

pub returns : goal.returns
returns c = losses_handed_on
