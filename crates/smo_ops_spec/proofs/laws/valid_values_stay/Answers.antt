use Rattle.smo_ops_spec.specs.Past.{beginning}
use Rattle.smo_ops_spec.proofs.PastSteps.{beginning_is_past}
use Rattle.smo_ops_spec.proofs.HeldValues.{value_valid_in, each_valid}
use Rattle.smo_ops_spec.proofs.ValueLaws.{migrated_values, changes_values, past_stays}
use Rattle.smo_ops_spec.proofs.ValueLaws.{beginning_holds, history_holds}
use Rattle.smo_ops_spec.proofs.laws.valid_values_stay.Goals as goal

pub returns-clause-migrate : goal.returns-clause-migrate
returns-clause-migrate c = migrated_values

pub returns-clause-changed : goal.returns-clause-changed
returns-clause-changed c = changes_values

pub returns-clause-beginning : goal.returns-clause-beginning
returns-clause-beginning c = beginning_holds

pub returns-clause-step : goal.returns-clause-step
returns-clause-step c = past_stays

pub returns-clause-history : goal.returns-clause-history
returns-clause-history c = λ commands is hold.
    history_holds beginning commands beginning_is_past is hold beginning_holds

pub returns-clause-each : goal.returns-clause-each
returns-clause-each c = value_valid_in

pub returns-clause-all : goal.returns-clause-all
returns-clause-all c = each_valid
