use Rattle.std.proofs.Common.{List, refl, ap, ◌∙◌}
use Rattle.std.specs.FinMap.{get}
use Rattle.smo_ops_spec.specs.Past.{no_tables, tables_from}
use Rattle.smo_ops_versions_spec.specs.Steps.{Step, taken}
use Rattle.smo_ops_versions_spec.specs.Migration.{stepped}
use Rattle.smo_ops_versions_spec.specs.LostTables.{lost_stepped}
use Rattle.smo_ops_versions_spec.proofs.OneSteps.{over_is, named_is, unnamed_is, carried_over_each}
use Rattle.smo_ops_versions_spec.proofs.OneSteps.{back_over_first, derived_is, filled_is, no_way_is}
use Rattle.smo_ops_versions_spec.proofs.OneSteps.{consumed_lost, made_gone, others_stay}
use Rattle.smo_ops_versions_spec.proofs.way_laws.a_step_is_over_its_version.Goals as goal

pub returns-clause-forward : goal.returns-clause-forward
returns-clause-forward c = λ versions k v db is.
    ap (λ (steps : List Step). taken stepped steps db) (over_is versions k v is)
    ∙ carried_over_each (tables_from no_tables versions k) v.op db

pub returns-clause-named : goal.returns-clause-named
returns-clause-named c = λ versions k v db op rest is e.
    ap (λ (steps : List Step). taken stepped steps db) (named_is versions k v is op rest e)

pub returns-clause-over_none : goal.returns-clause-over_none
returns-clause-over_none c = λ tables db. refl

pub returns-clause-over_each : goal.returns-clause-over_each
returns-clause-over_each c = λ tables op ops db. refl

pub returns-clause-unnamed : goal.returns-clause-unnamed
returns-clause-unnamed c = λ versions k v db is e.
    ap (λ (steps : List Step). taken stepped steps db) (unnamed_is versions k v is e)

pub returns-clause-back_none : goal.returns-clause-back_none
returns-clause-back_none c = λ k i before db. refl

pub returns-clause-back_each : goal.returns-clause-back_each
returns-clause-back_each c = λ k i before op ops db. back_over_first stepped k i before op ops db

pub returns-clause-derived : goal.returns-clause-derived
returns-clause-derived c = λ loss before op db inverse w.
    ap (λ (s : Step). stepped s db) (derived_is loss before op inverse w)

pub returns-clause-filled : goal.returns-clause-filled
returns-clause-filled c = λ loss before op db f w.
    ap (λ (s : Step). stepped s db) (filled_is loss before op f w)

pub returns-clause-lost : goal.returns-clause-lost
returns-clause-lost c = λ loss before op db n w l.
    ap (λ (s : Step). get (stepped s db) n) (no_way_is loss before op w)
    ∙ consumed_lost loss before op db n l

pub returns-clause-gone : goal.returns-clause-gone
returns-clause-gone c = λ loss before op db n w m l.
    ap (λ (s : Step). get (stepped s db) n) (no_way_is loss before op w)
    ∙ made_gone loss before op db n m l

pub returns-clause-others : goal.returns-clause-others
returns-clause-others c = λ loss before op db n w m l.
    ap (λ (s : Step). get (stepped s db) n) (no_way_is loss before op w)
    ∙ others_stay loss before op db n m l

pub returns-clause-losses_over : goal.returns-clause-losses_over
returns-clause-losses_over c = λ versions k v losses is.
    ap (λ (steps : List Step). taken lost_stepped steps losses) (over_is versions k v is)

pub returns-clause-losses_over_none : goal.returns-clause-losses_over_none
returns-clause-losses_over_none c = λ tables losses. refl

pub returns-clause-losses_over_each : goal.returns-clause-losses_over_each
returns-clause-losses_over_each c = λ tables op ops losses. refl

pub returns-clause-losses_named : goal.returns-clause-losses_named
returns-clause-losses_named c = λ versions k v losses op rest is e.
    ap (λ (steps : List Step). taken lost_stepped steps losses)
    (named_is versions k v is op rest e)

pub returns-clause-losses_unnamed : goal.returns-clause-losses_unnamed
returns-clause-losses_unnamed c = λ versions k v losses is e.
    ap (λ (steps : List Step). taken lost_stepped steps losses) (unnamed_is versions k v is e)

pub returns-clause-losses_back_none : goal.returns-clause-losses_back_none
returns-clause-losses_back_none c = λ k i before losses. refl

pub returns-clause-losses_back_each : goal.returns-clause-losses_back_each
returns-clause-losses_back_each c = λ k i before op ops losses.
    back_over_first lost_stepped k i before op ops losses

pub returns-clause-losses_derived : goal.returns-clause-losses_derived
returns-clause-losses_derived c = λ loss before op losses inverse w.
    ap (λ (s : Step). lost_stepped s losses) (derived_is loss before op inverse w)

pub returns-clause-losses_filled : goal.returns-clause-losses_filled
returns-clause-losses_filled c = λ loss before op losses f w.
    ap (λ (s : Step). lost_stepped s losses) (filled_is loss before op f w)

pub returns-clause-losses_undone : goal.returns-clause-losses_undone
returns-clause-losses_undone c = λ loss before op losses w.
    ap (λ (s : Step). lost_stepped s losses) (no_way_is loss before op w)
