use Rattle.std.proofs.Common.{ap, ◌∙◌, List, map}
use Rattle.smo_ops_types.specs.Commands.{PlainVersion, version_of}
use Rattle.smo_ops_types.specs.declared.version.Version.{Version}
use Rattle.temporal_lang_types.specs.Queries.{query_of}
use Rattle.temporal_lang_spec.specs.Losing.{first_loss_of}
use Rattle.temporal_lang_spec.specs.Accepted.{no_way_back}
use Rattle.archive_core_state.proofs.QueryFaults.{none_lost, one_lost, within_kept}
use Rattle.archive_core_state.proofs.QueryFaults.{checked_there, checked_lasting}
use Rattle.archive_core_state.proofs.asked_query.check_losses.Goals as goal

pub first_loss_in_slice-requires-clause-asked : goal.first_loss_in_slice-requires-clause-asked
first_loss_in_slice-requires-clause-asked c =
    within_kept c.args.groups.now c.requires.0 c.args.checked.now.version c.requires.1
    (checked_there c.requires.0 (query_of c.args.query.now) c.args.checked.now c.requires.2)

pub first_loss_in_slice-requires-clause-lasting : goal.first_loss_in_slice-requires-clause-lasting
first_loss_in_slice-requires-clause-lasting c =
    checked_lasting c.requires.0 (query_of c.args.query.now) c.args.checked.now c.requires.2

pub returns-in-None : goal.returns-in-None
returns-in-None c = λ past represents h. none_lost past (query_of c.args.query.now) h.few h.there
    c.in_ok-loss.loss (c.in_ok-loss.ensures past represents ∙ ap (first_loss_of past) h.atoms)
    c.in-None.is h.tests

pub returns-in-Some : goal.returns-in-Some
returns-in-Some c = λ past represents h.
    one_lost past (query_of c.args.query.now) h.few h.there c.in_ok-loss.loss c.in-Some.loss
    c.no_way_back.result
    (c.in_ok-loss.ensures past represents ∙ ap (first_loss_of past) h.atoms) c.in-Some.is
    (c.no_way_back.ensures ∙ ap (λ (vs : List PlainVersion). no_way_back vs c.in-Some.loss)
    (ap (λ (vs : List Version). map version_of vs) c.versions.ensures
    ∙ represents.versions)) h.tests
