use Rattle.cond_expr.proofs.ConstantLaws.{value_valid}
use Rattle.cond_expr.proofs.laws.valid_values_are_computed.Goals as goal

pub returns : goal.returns
returns c = value_valid
