use Rattle.smo_parse.proofs.OperatorCountSizes.{operator_adds_up}
use Rattle.smo_parse.proofs.laws.operator_counts_add_up.Goals as goal

pub returns : goal.returns
returns c = operator_adds_up
