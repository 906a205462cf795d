use Rattle.std.specs.FinMap.{empty}
use Rattle.smo_ops_versions_spec.specs.Migration.{stepped}
use Rattle.smo_ops_versions_spec.specs.LostTables.{lost_stepped}
use Rattle.smo_ops_versions_spec.proofs.WaySteps.{taken_stays, taken_forward, taken_backward}
use Rattle.smo_ops_versions_spec.proofs.WaySteps.{taken_forward_by, taken_back_by}
use Rattle.smo_ops_versions_spec.proofs.way_laws.the_way_is_step_by_step.Goals as goal

pub returns-clause-stays : goal.returns-clause-stays
returns-clause-stays c = λ versions v db. taken_stays versions stepped v db

pub returns-clause-forward : goal.returns-clause-forward
returns-clause-forward c = λ versions v q db l. taken_forward versions stepped v q db l

pub returns-clause-back : goal.returns-clause-back
returns-clause-back c = λ versions v q db l. taken_backward versions stepped v q db l

pub returns-clause-forward_by : goal.returns-clause-forward_by
returns-clause-forward_by c = λ versions v m q db l r.
    taken_forward_by versions stepped v m q db l r

pub returns-clause-back_by : goal.returns-clause-back_by
returns-clause-back_by c = λ versions v m q db l r. taken_back_by versions stepped v m q db l r

pub returns-clause-losses_stay : goal.returns-clause-losses_stay
returns-clause-losses_stay c = λ versions v. taken_stays versions lost_stepped v empty

pub returns-clause-losses_forward : goal.returns-clause-losses_forward
returns-clause-losses_forward c = λ versions v q l.
    taken_forward versions lost_stepped v q empty l

pub returns-clause-losses_back : goal.returns-clause-losses_back
returns-clause-losses_back c = λ versions v q l.
    taken_backward versions lost_stepped v q empty l
