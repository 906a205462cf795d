use Rattle.std.proofs.Common.{sym, subst}
use Rattle.script_cli_statement.specs.StopReasons.{SaidCounted}
use Rattle.script_cli_statement.specs.Replies.{refused_or}
use Rattle.script_cli_statement.specs.Responses.{Says}
use Rattle.script_cli_statement.specs.SessionResponses.{IsRefused}
use Rattle.script_cli_statement.proofs.Responding.{refused_says, said_counted, on_ok}
use Rattle.script_cli_statement.proofs.session_response.refuse_request.Goals as goal

pub returns-in-Refused-clause-says : goal.returns-in-Refused-clause-says
returns-in-Refused-clause-says g c = λ wrong now reply is.
    subst (λ r. Says (refused_or wrong now reply) r (g.K.Sink.written c.args.sink.now)
    (g.K.Sink.written c.refuse.new.sink)) (sym c.or_write_fault.ensures)
    (refused_says _ _ wrong c.in-Refused.refusal now reply c.refuse.result
    (rw c.in-Refused.is at is) c.refuse.ensures.ok c.refuse.ensures.all c.refuse.ensures.part)

pub returns-in-Refused-clause-counts : goal.returns-in-Refused-clause-counts
returns-in-Refused-clause-counts g c =
    subst (λ r. SaidCounted r (g.K.Sink.faults c.args.sink.now) (g.K.Sink.faults c.refuse.new.sink))
    (sym c.or_write_fault.ensures) (said_counted c.refuse.result _ _ c.refuse.ensures.cause)

pub returns-in-Refused-clause-refused : goal.returns-in-Refused-clause-refused
returns-in-Refused-clause-refused g c =
    on_ok c.or_write_fault.result _ (subst IsRefused (sym c.in-Refused.is) tt)

-- ---- it calls no disk

pub returns-in-Broken-clause-says : goal.returns-in-Broken-clause-says
returns-in-Broken-clause-says g c = absurd (rw c.in-Broken.is at c.requires)

pub returns-in-Broken-clause-counts : goal.returns-in-Broken-clause-counts
returns-in-Broken-clause-counts g c = absurd (rw c.in-Broken.is at c.requires)

pub returns-in-Disk-clause-says : goal.returns-in-Disk-clause-says
returns-in-Disk-clause-says g c = absurd (rw c.in-Disk.is at c.requires)

pub returns-in-Disk-clause-counts : goal.returns-in-Disk-clause-counts
returns-in-Disk-clause-counts g c = absurd (rw c.in-Disk.is at c.requires)
