use Rattle.smo_ops_spec.proofs.PastSteps.{agreeing_states}
use Rattle.smo_ops_spec.proofs.laws.pasts_that_agree_have_the_same_states.Goals as goal

pub returns : goal.returns
returns c = agreeing_states
