use Rattle.std.proofs.Common.{length, refl, sym, subst}
use Rattle.std.specs.Prelude.{None}
use Rattle.version_groups.specs.Groups.{Kept}
use Rattle.version_groups.specs.Representation.{Represents}
use Rattle.answer_text.specs.Texts.{sizes_text}
use Rattle.script_cli_statement.specs.Replies.{sizes_reply}
use Rattle.script_cli_statement.specs.StopReasons.{SaidCounted}
use Rattle.script_cli_statement.specs.Responses.{Says}
use Rattle.script_cli_statement.proofs.Responding.{answered_says, said_counted}
use Rattle.script_cli_statement.proofs.response.respond_sizes.Goals as goal

pub returns-clause-says : goal.returns-clause-says
returns-clause-says g c = λ now represents.
    let past = now.past in
    let text = sizes_text (length past.versions) past.sizes in
    let shown : Represents c.groups-groups.result.now past =
    subst (λ (k : Kept). Represents k past) (sym c.groups-groups.ensures.groups) represents.groups in
    let counted = c.count_lifelines-count.ensures past shown in
    subst (λ r. Says (sizes_reply now) r (g.K.Sink.written c.args.sink.now)
    (g.K.Sink.written c.put_lifelines.new.sink)) (sym c.or_write_fault.ensures)
    (answered_says _ _ None now text text c.put_lifelines.result refl refl
    c.put_lifelines.ensures.ok (c.put_lifelines.ensures.all past shown counted)
    (c.put_lifelines.ensures.part past shown counted))

pub returns-clause-counts : goal.returns-clause-counts
returns-clause-counts g c = subst (λ r. SaidCounted r (g.K.Sink.faults c.args.sink.now)
    (g.K.Sink.faults c.put_lifelines.new.sink)) (sym c.or_write_fault.ensures)
    (said_counted c.put_lifelines.result _ _ c.put_lifelines.ensures.cause)
