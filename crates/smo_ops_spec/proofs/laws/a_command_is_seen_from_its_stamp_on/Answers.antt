use Rattle.smo_ops_spec.proofs.PastSteps.{later_stamp, body_accepted, before_command, from_command}
use Rattle.smo_ops_spec.proofs.laws.a_command_is_seen_from_its_stamp_on.Goals as goal

pub returns-clause-before : goal.returns-clause-before
returns-clause-before c = λ past command m earlier.
    before_command past command.stamp command.body m earlier

pub returns-clause-from : goal.returns-clause-from
returns-clause-from c = λ past command m valid accepted later.
    from_command past command.stamp command.body valid (later_stamp past command accepted)
    (body_accepted past command accepted) m later
