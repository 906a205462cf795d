use Rattle.std.proofs.Common.{ap, refl, sym, subst, ◌∙◌}
use Rattle.prima_base.specs.Timed.{entries_of}
use Rattle.temporal_lang_types.specs.Queries.{query_of}
use Rattle.temporal_lang_spec.specs.Accepted.{fault_of_query}
use Rattle.temporal_lang_spec.specs.Answers.{answer}
use Rattle.script_cli_vault.specs.ArchiveOnDisk.{tells_periods}
use Rattle.answer_text.specs.Texts.{listing_text}
use Rattle.script_cli_statement.specs.Replies.{query_reply}
use Rattle.script_cli_statement.specs.StopReasons.{SaidCounted}
use Rattle.script_cli_statement.specs.Responses.{Says}
use Rattle.script_cli_statement.proofs.Responding.{answered_says, refused_says, said_counted}
use Rattle.script_cli_statement.proofs.response.respond_ask.Goals as goal

pub returns-in-Ok-clause-says : goal.returns-in-Ok-clause-says
returns-in-Ok-clause-says g c = λ now represents.
    let past = now.past in
    let query = query_of c.args.query.now in
    let h = c.in-Ok.ensures.asked past represents in
    subst (λ r. Says (query_reply query now) r (g.K.Sink.written c.args.sink.now)
    (g.K.Sink.written c.put_query_answer.new.sink)) (sym c.or_write_fault.ensures)
    (answered_says _ _ (fault_of_query past query) now
    (listing_text (tells_periods query.when) (answer past query))
    (listing_text c.in-Ok.listing.periods (entries_of c.in-Ok.listing.rows.items))
    c.put_query_answer.result h.accepted
    (ap (listing_text c.in-Ok.listing.periods) h.rows
    ∙ ap (λ told. listing_text told (answer past query)) h.periods)
    c.put_query_answer.ensures.ok c.put_query_answer.ensures.all c.put_query_answer.ensures.part)

pub returns-in-Err-Refused-clause-says : goal.returns-in-Err-Refused-clause-says
returns-in-Err-Refused-clause-says g c = λ now represents.
    let query = query_of c.args.query.now in
    subst (λ r. Says (query_reply query now) r (g.K.Sink.written c.args.sink.now)
    (g.K.Sink.written c.refuse.new.sink)) (sym c.or_write_fault-in-Err-Refused.ensures)
    (refused_says _ _ _ c.in-Err-Refused.refusal now _ c.refuse.result
    (rw c.in-Err-Refused.field-0-is at (c.in-Err-Refused.ensures.asked now.past represents))
    c.refuse.ensures.ok c.refuse.ensures.all c.refuse.ensures.part)

pub returns-in-Err-NoMemory-clause-says : goal.returns-in-Err-NoMemory-clause-says
returns-in-Err-NoMemory-clause-says g c = λ now represents. refl

pub returns-in-Ok-clause-counts : goal.returns-in-Ok-clause-counts
returns-in-Ok-clause-counts g c = subst (λ r.
    SaidCounted r (g.K.Sink.faults c.args.sink.now) (g.K.Sink.faults c.put_query_answer.new.sink))
    (sym c.or_write_fault.ensures) (said_counted c.put_query_answer.result _ _
    c.put_query_answer.ensures.cause)

pub returns-in-Err-Refused-clause-counts : goal.returns-in-Err-Refused-clause-counts
returns-in-Err-Refused-clause-counts g c = subst
    (λ r. SaidCounted r (g.K.Sink.faults c.args.sink.now) (g.K.Sink.faults c.refuse.new.sink))
    (sym c.or_write_fault-in-Err-Refused.ensures)
    (said_counted c.refuse.result _ _ c.refuse.ensures.cause)
