use Rattle.std.proofs.Common.{refl, sym, ap, subst, ◌∙◌}
use Rattle.std.specs.Prelude.{None}
use Rattle.relations_spec.specs.Spans.{always}
use Rattle.prima_base.specs.Groups.{groups_shown}
use Rattle.prima_base.specs.Timed.{rows_at, entries_of}
use Rattle.time_aggregate.specs.Aggregates.{groups}
use Rattle.time_aggregate.specs.Aggregated.{aggregated}
use Rattle.time_aggregate.proofs.AggregatedLaws.{aggregated_lists}
use Rattle.time_aggregate.proofs.OneListing.{one_told}
use Rattle.answer_text.specs.Texts.{aggregates_text}
use Rattle.script_cli_statement.specs.Replies.{answered}
use Rattle.script_cli_statement.specs.StopReasons.{SaidCounted}
use Rattle.script_cli_statement.specs.Responses.{Says}
use Rattle.script_cli_statement.proofs.Responding.{answered_says, said_counted}
use Rattle.script_cli_statement.proofs.aggregate_response.put_aggregated.Goals as goal

pub returns-in-Ok-clause-says : goal.returns-in-Ok-clause-says
returns-in-Ok-clause-says g c = λ now.
    let entries = entries_of c.args.listing.now.rows.items in
    let text = aggregates_text c.args.listing.now.periods
    (aggregated c.args.group c.args.items.now entries) in
    let is = one_told (λ m. groups c.args.group c.args.items.now
    (rows_at c.args.listing.now.rows.items m)) always
    (groups_shown c.in-Ok.rows.items) (aggregated c.args.group c.args.items.now entries)
    c.in-Ok.ensures (aggregated_lists c.args.group c.args.items.now entries) in
    subst (λ r. Says (answered text now) r (g.K.Sink.written c.args.sink.now)
    (g.K.Sink.written c.put_groups.new.sink)) (sym c.or_write_fault.ensures)
    (answered_says _ _ None now text
    (aggregates_text c.args.listing.now.periods (groups_shown c.deref.result.now))
    c.put_groups.result refl (ap (aggregates_text c.args.listing.now.periods)
    (ap groups_shown c.deref.ensures.value ∙ is))
    c.put_groups.ensures.ok c.put_groups.ensures.all c.put_groups.ensures.part)

pub returns-in-Err-clause-says : goal.returns-in-Err-clause-says
returns-in-Err-clause-says g c = λ now. refl

pub returns-in-Ok-clause-counts : goal.returns-in-Ok-clause-counts
returns-in-Ok-clause-counts g c = subst (λ r.
    SaidCounted r (g.K.Sink.faults c.args.sink.now) (g.K.Sink.faults c.put_groups.new.sink))
    (sym c.or_write_fault.ensures) (said_counted c.put_groups.result _ _
    c.put_groups.ensures.cause)
