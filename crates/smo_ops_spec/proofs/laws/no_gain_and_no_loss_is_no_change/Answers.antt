use Rattle.smo_ops_spec.proofs.SameDatabases.{same_database}
use Rattle.smo_ops_spec.proofs.laws.no_gain_and_no_loss_is_no_change.Goals as goal

pub returns : goal.returns
returns c = same_database
