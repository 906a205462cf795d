use Rattle.std.proofs.Common.{ap, refl, sym, subst, ◌∙◌}
use Rattle.piece_ir_spec.specs.Books.{book_of}
use Rattle.piece_ir.specs.ExplainedPieces.{all_explained}
use Rattle.temporal_lang_types.specs.Queries.{query_of}
use Rattle.temporal_lang_spec.specs.Accepted.{fault_of_query}
use Rattle.script_cli_vault.specs.ArchiveOnDisk.{pieces_told}
use Rattle.answer_text.specs.Texts.{explain_text}
use Rattle.script_cli_statement.specs.Replies.{explain_reply}
use Rattle.script_cli_statement.specs.StopReasons.{SaidCounted}
use Rattle.script_cli_statement.specs.Responses.{Says}
use Rattle.script_cli_statement.proofs.Responding.{accepted_says, refused_says, said_counted}
use Rattle.script_cli_statement.proofs.response.respond_explain.Goals as goal

pub returns-in-Ok-clause-says : goal.returns-in-Ok-clause-says
returns-in-Ok-clause-says g c = λ now represents.
    let past = now.past in
    let query = query_of c.args.query.now in
    let h = c.in-Ok.ensures.explained past represents in
    accepted_says _ _ (fault_of_query past query) now
    (explain_text (pieces_told (book_of g.R.Rule.handles g.R.Rule.answers
    c.args.book.now.rules.items)
    past query)) (explain_text (all_explained c.deref.result.now)) c.put_pieces.result
    h.accepted
    (ap explain_text (ap all_explained c.deref.ensures.value ∙ h.told))
    (c.put_pieces.ensures.says now)

pub returns-in-Err-Refused-clause-says : goal.returns-in-Err-Refused-clause-says
returns-in-Err-Refused-clause-says g c = λ now represents.
    let query = query_of c.args.query.now in
    subst (λ r. Says (explain_reply (book_of g.R.Rule.handles g.R.Rule.answers
    c.args.book.now.rules.items)
    query now) r (g.K.Sink.written c.args.sink.now) (g.K.Sink.written c.refuse.new.sink))
    (sym c.or_write_fault.ensures)
    (refused_says _ _ _ c.in-Err-Refused.refusal now _ c.refuse.result
    (rw c.in-Err-Refused.field-0-is at (c.in-Err-Refused.ensures.explained now.past represents))
    c.refuse.ensures.ok
    (rw c.in-Err-Refused.field-0-is at c.refuse.ensures.all)
    (rw c.in-Err-Refused.field-0-is at c.refuse.ensures.part))

pub returns-in-Err-NoMemory-clause-says : goal.returns-in-Err-NoMemory-clause-says
returns-in-Err-NoMemory-clause-says g c = λ now represents. refl

pub returns-in-Err-Refused-clause-counts : goal.returns-in-Err-Refused-clause-counts
returns-in-Err-Refused-clause-counts g c = subst
    (λ r. SaidCounted r (g.K.Sink.faults c.args.sink.now) (g.K.Sink.faults c.refuse.new.sink))
    (sym c.or_write_fault.ensures) (said_counted c.refuse.result _ _ c.refuse.ensures.cause)
