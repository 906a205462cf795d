use Rattle.smo_parse.proofs.OperatorCorrectness.{operator_correct}
use Rattle.smo_parse.proofs.laws.operators_are_correct.Goals as goal

pub returns : goal.returns
returns c = operator_correct
