use Rattle.std.proofs.Common.{arith}
use Rattle.smo_ops_spec.specs.Past.{beginning}
use Rattle.smo_ops_spec.proofs.PastSteps.{beginning_is_past}
use Rattle.smo_ops_spec.proofs.HistoryLaws.{has_state, counted}
use Rattle.smo_ops_spec.proofs.laws.a_past_has_the_states_of_its_history.Goals as goal

pub returns-clause-states : goal.returns-clause-states
returns-clause-states c = λ commands m accepted.
    has_state beginning commands m beginning_is_past accepted (omega arith)

pub returns-clause-count : goal.returns-clause-count
returns-clause-count c = λ commands. (let h = counted beginning commands in omega arith)
