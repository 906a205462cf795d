use Rattle.smo_ops_spec.proofs.Checking.{same_fault}
use Rattle.smo_ops_spec.proofs.laws.a_command_is_checked_by_the_newest_schema.Goals as goal

pub returns : goal.returns
returns c = same_fault
