use Rattle.query_pieces_spec.proofs.LeastLoss.{none_before, none_lost, least_lost, kept_at}
use Rattle.query_pieces_spec.proofs.laws.the_least_lost_version_decides.Goals as goal

pub returns-clause-before : goal.returns-clause-before
returns-clause-before c = λ versions v w query l e. none_before versions v w query l e

pub returns-clause-none : goal.returns-clause-none
returns-clause-none c = λ past query w below e. none_lost past query w below e

pub returns-clause-some : goal.returns-clause-some
returns-clause-some c = λ past query m loss asked some none.
    least_lost past query m loss asked some none

pub returns-clause-each : goal.returns-clause-each
returns-clause-each c = λ past query e m asked. kept_at past query e m asked
