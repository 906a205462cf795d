use Rattle.std.proofs.Common.{refl, ap, sym, subst}
use Rattle.std.specs.Prelude.{map}
use Rattle.sessions.specs.Lines.{line_of}
use Rattle.answer_text.specs.SessionTexts.{cursors_text}
use Rattle.script_cli_statement.specs.Replies.{cursors_reply}
use Rattle.script_cli_statement.specs.StopReasons.{SaidCounted}
use Rattle.script_cli_statement.specs.Responses.{Says}
use Rattle.script_cli_statement.proofs.Responding.{said_counted}
use Rattle.script_cli_statement.proofs.SessionSaid.{lines_say}
use Rattle.script_cli_statement.proofs.session_response.respond_cursors.Goals as goal

pub returns-clause-says : goal.returns-clause-says
returns-clause-says g c = λ now kept.
    let u = g.K.Sink.written c.args.sink.now in
    let w = g.K.Sink.written c.put_cursors.new.sink in
    subst (λ r. Says (cursors_reply now) r u w) (sym c.or_write_fault.ensures)
    (lines_say u w (cursors_reply now) _ c.put_cursors.result refl refl
    (ap (λ it. cursors_text (map line_of it.cursors)) kept)
    c.put_cursors.ensures.ok c.put_cursors.ensures.all c.put_cursors.ensures.part)

pub returns-clause-counts : goal.returns-clause-counts
returns-clause-counts g c =
    subst (λ r. SaidCounted r (g.K.Sink.faults c.args.sink.now)
    (g.K.Sink.faults c.put_cursors.new.sink)) (sym c.or_write_fault.ensures)
    (said_counted c.put_cursors.result _ _ c.put_cursors.ensures.cause)
