use Rattle.smo_ops_spec.specs.WaysBack.{blank}
use Rattle.smo_ops_versions_spec.proofs.WayLeads.{blank_kind}
use Rattle.temporal_lang_losses_spec.proofs.NoFilling.{no_filling, none_shows}
use Rattle.temporal_lang_losses_spec.proofs.laws.no_answer_shows_a_filling.Goals as goal

pub returns-clause-plain : goal.returns-clause-plain
returns-clause-plain c = λ versions v q database branches constants p are h e.
    no_filling blank constants blank_kind p versions are v q database branches h e

pub returns-clause-asked : goal.returns-clause-asked
returns-clause-asked c = λ past query m constants p is e from to.
    none_shows blank constants blank_kind p past query is e m from to
