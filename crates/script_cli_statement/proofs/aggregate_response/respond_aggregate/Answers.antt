use Rattle.std.proofs.Common.{refl, sym, ap, subst, ◌∙◌}
use Rattle.prima_base.specs.Timed.{entries_of}
use Rattle.temporal_lang_types.specs.Queries.{query_of}
use Rattle.temporal_lang_spec.specs.Answers.{answer}
use Rattle.temporal_lang_spec.specs.AggregateFaults.{fault_of_aggregate}
use Rattle.time_aggregate.specs.Aggregated.{aggregated}
use Rattle.script_cli_vault.specs.ArchiveOnDisk.{tells_periods}
use Rattle.answer_text.specs.Texts.{aggregates_text}
use Rattle.script_cli_statement.specs.Replies.{aggregate_reply}
use Rattle.script_cli_statement.specs.StopReasons.{SaidCounted}
use Rattle.script_cli_statement.specs.Responses.{Says}
use Rattle.script_cli_statement.proofs.Responding.{accepted_says, refused_says, said_counted}
use Rattle.script_cli_statement.proofs.aggregate_response.respond_aggregate.Goals as goal

pub returns-in-Ok-clause-says : goal.returns-in-Ok-clause-says
returns-in-Ok-clause-says g c = λ now represents.
    let past = now.past in
    let query = query_of c.args.query.now in
    let items = c.args.items.now in
    let group = c.args.group in
    let h = c.in-Ok.ensures.asked past represents in
    accepted_says _ _ (fault_of_aggregate past items group query) now
    (aggregates_text (tells_periods query.when) (aggregated group items (answer past query)))
    (aggregates_text c.in-Ok.listing.periods
    (aggregated group items (entries_of c.in-Ok.listing.rows.items)))
    c.put_aggregated.result h.accepted
    (λ i. aggregates_text (h.periods i) (aggregated group items (h.rows i)))
    (c.put_aggregated.ensures.says now)

pub returns-in-Err-Refused-clause-says : goal.returns-in-Err-Refused-clause-says
returns-in-Err-Refused-clause-says g c = λ now represents.
    subst (λ r. Says (aggregate_reply c.args.items.now c.args.group (query_of c.args.query.now) now)
    r (g.K.Sink.written c.args.sink.now) (g.K.Sink.written c.refuse.new.sink))
    (sym c.or_write_fault.ensures)
    (refused_says _ _ _ c.in-Err-Refused.refusal now _ c.refuse.result
    (rw c.in-Err-Refused.field-0-is at (c.in-Err-Refused.ensures.asked now.past represents))
    c.refuse.ensures.ok (rw c.in-Err-Refused.field-0-is at c.refuse.ensures.all)
    (rw c.in-Err-Refused.field-0-is at c.refuse.ensures.part))

pub returns-in-Err-NoMemory-clause-says : goal.returns-in-Err-NoMemory-clause-says
returns-in-Err-NoMemory-clause-says g c = λ now represents. refl

pub returns-in-Err-Refused-clause-counts : goal.returns-in-Err-Refused-clause-counts
returns-in-Err-Refused-clause-counts g c = subst
    (λ r. SaidCounted r (g.K.Sink.faults c.args.sink.now) (g.K.Sink.faults c.refuse.new.sink))
    (sym c.or_write_fault.ensures) (said_counted c.refuse.result _ _ c.refuse.ensures.cause)
