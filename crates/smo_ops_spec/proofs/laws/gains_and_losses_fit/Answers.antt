use Rattle.smo_ops_spec.proofs.GainLaws.{counts_fit}
use Rattle.smo_ops_spec.proofs.laws.gains_and_losses_fit.Goals as goal

pub returns : goal.returns
returns c = λ columns old new o n. counts_fit old new o.ascending n.ascending
