use Rattle.std.proofs.Common.{refl, sym, subst}
use Rattle.prima_base.specs.Timed.{entries_of}
use Rattle.temporal_lang_types.specs.Queries.{query_of}
use Rattle.temporal_lang_spec.specs.Answers.{answer}
use Rattle.temporal_lang_spec.specs.PairFaults.{fault_of_pairs}
use Rattle.period_join.specs.RelatedEntries.{related_entries}
use Rattle.answer_text.specs.Texts.{pairs_text}
use Rattle.script_cli_statement.specs.Replies.{pairs_reply}
use Rattle.script_cli_statement.specs.StopReasons.{SaidCounted}
use Rattle.script_cli_statement.specs.Responses.{Says}
use Rattle.script_cli_statement.proofs.Responding.{answered_says, refused_says, said_counted}
use Rattle.script_cli_statement.proofs.pair_response.respond_pairs.Goals as goal

pub returns-in-Ok-clause-says : goal.returns-in-Ok-clause-says
returns-in-Ok-clause-says g c = λ now represents.
    let past = now.past in
    let left = query_of c.args.left.now in
    let right = query_of c.args.right.now in
    let relation = c.args.relation in
    let h = c.in-Ok.ensures past represents in
    subst (λ r. Says (pairs_reply left relation right now) r (g.K.Sink.written c.args.sink.now)
    (g.K.Sink.written c.put_pairs.new.sink)) (sym c.or_write_fault.ensures)
    (answered_says _ _ (fault_of_pairs past left right) now
    (pairs_text (related_entries relation (answer past left) (answer past right)))
    (pairs_text (related_entries relation (entries_of c.in-Ok.first.rows.items)
    (entries_of c.in-Ok.second.rows.items)))
    c.put_pairs.result h.accepted
    (λ i. pairs_text (related_entries relation (h.first_is i) (h.second_is i)))
    c.put_pairs.ensures.ok c.put_pairs.ensures.all c.put_pairs.ensures.part)

pub returns-in-Err-Refused-clause-says : goal.returns-in-Err-Refused-clause-says
returns-in-Err-Refused-clause-says g c = λ now represents.
    subst (λ r. Says (pairs_reply (query_of c.args.left.now) c.args.relation
    (query_of c.args.right.now) now) r (g.K.Sink.written c.args.sink.now)
    (g.K.Sink.written c.refuse.new.sink)) (sym c.or_write_fault-in-Err-Refused.ensures)
    (refused_says _ _ _ c.in-Err-Refused.refusal now _ c.refuse.result
    (rw c.in-Err-Refused.field-0-is at (c.in-Err-Refused.ensures now.past represents))
    c.refuse.ensures.ok (rw c.in-Err-Refused.field-0-is at c.refuse.ensures.all)
    (rw c.in-Err-Refused.field-0-is at c.refuse.ensures.part))

pub returns-in-Err-NoMemory-clause-says : goal.returns-in-Err-NoMemory-clause-says
returns-in-Err-NoMemory-clause-says g c = λ now represents. refl

pub returns-in-Ok-clause-counts : goal.returns-in-Ok-clause-counts
returns-in-Ok-clause-counts g c = subst (λ r.
    SaidCounted r (g.K.Sink.faults c.args.sink.now) (g.K.Sink.faults c.put_pairs.new.sink))
    (sym c.or_write_fault.ensures) (said_counted c.put_pairs.result _ _
    c.put_pairs.ensures.cause)

pub returns-in-Err-Refused-clause-counts : goal.returns-in-Err-Refused-clause-counts
returns-in-Err-Refused-clause-counts g c = subst
    (λ r. SaidCounted r (g.K.Sink.faults c.args.sink.now) (g.K.Sink.faults c.refuse.new.sink))
    (sym c.or_write_fault-in-Err-Refused.ensures)
    (said_counted c.refuse.result _ _ c.refuse.ensures.cause)
