use Rattle.std.proofs.Common.{List, refl, ap}
use Rattle.std.specs.FinMap.{empty}
use Rattle.smo_ops_versions_spec.specs.Steps.{Step, taken}
use Rattle.smo_ops_versions_spec.specs.LostNames.{losses_stepped}
use Rattle.smo_ops_versions_spec.proofs.WaySteps.{taken_stays, taken_forward, taken_backward}
use Rattle.smo_ops_versions_spec.proofs.OneSteps.{over_is, named_is, unnamed_is, back_over_first}
use Rattle.smo_ops_versions_spec.proofs.OneSteps.{derived_is, filled_is, no_way_is}
use Rattle.smo_ops_versions_spec.proofs.loss_laws.losses_by_name_are_step_by_step.Goals as goal

pub returns-clause-stays : goal.returns-clause-stays
returns-clause-stays c = λ versions v. taken_stays versions losses_stepped v empty

pub returns-clause-forward : goal.returns-clause-forward
returns-clause-forward c = λ versions v q l. taken_forward versions losses_stepped v q empty l

pub returns-clause-back : goal.returns-clause-back
returns-clause-back c = λ versions v q l. taken_backward versions losses_stepped v q empty l

pub returns-clause-over : goal.returns-clause-over
returns-clause-over c = λ versions k v losses is.
    ap (λ (steps : List Step). taken losses_stepped steps losses) (over_is versions k v is)

pub returns-clause-over_none : goal.returns-clause-over_none
returns-clause-over_none c = λ tables losses. refl

pub returns-clause-over_each : goal.returns-clause-over_each
returns-clause-over_each c = λ tables op ops losses. refl

pub returns-clause-named : goal.returns-clause-named
returns-clause-named c = λ versions k v losses op rest is e.
    ap (λ (steps : List Step). taken losses_stepped steps losses)
    (named_is versions k v is op rest e)

pub returns-clause-unnamed : goal.returns-clause-unnamed
returns-clause-unnamed c = λ versions k v losses is e.
    ap (λ (steps : List Step). taken losses_stepped steps losses) (unnamed_is versions k v is e)

pub returns-clause-back_none : goal.returns-clause-back_none
returns-clause-back_none c = λ k i before losses. refl

pub returns-clause-back_each : goal.returns-clause-back_each
returns-clause-back_each c = λ k i before op ops losses.
    back_over_first losses_stepped k i before op ops losses

pub returns-clause-derived : goal.returns-clause-derived
returns-clause-derived c = λ loss before op losses inverse w.
    ap (λ (s : Step). losses_stepped s losses) (derived_is loss before op inverse w)

pub returns-clause-filled : goal.returns-clause-filled
returns-clause-filled c = λ loss before op losses f w.
    ap (λ (s : Step). losses_stepped s losses) (filled_is loss before op f w)

pub returns-clause-undone : goal.returns-clause-undone
returns-clause-undone c = λ loss before op losses w.
    ap (λ (s : Step). losses_stepped s losses) (no_way_is loss before op w)
