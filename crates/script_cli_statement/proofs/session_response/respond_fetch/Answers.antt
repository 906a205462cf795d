use Rattle.std.proofs.Common.{sym, subst}
use Rattle.sessions.specs.Meaning.{sessions_of}
use Rattle.sessions.specs.Requests.{fetching}
use Rattle.sessions.specs.Steps.{fault_of}
use Rattle.script_cli_vault.specs.Shown.{need_of}
use Rattle.script_cli_statement.specs.Replies.{world_of, request_reply, session_reply}
use Rattle.script_cli_statement.specs.Responses.{Says}
use Rattle.script_cli_statement.specs.StopReasons.{SaidCounted}
use Rattle.script_cli_statement.proofs.Responding.{on_ok, refused_says, said_counted}
use Rattle.script_cli_statement.proofs.SessionFetched.{fetched_says, fetched_leaves, missing_is}
use Rattle.script_cli_statement.proofs.SessionFetched.{missing_leaves}
use Rattle.script_cli_statement.proofs.session_response.respond_fetch.Goals as goal

pub returns-in-Some-clause-says : goal.returns-in-Some-clause-says
returns-in-Some-clause-says g c = λ given now kept.
    let u = g.K.Sink.written c.args.sink.now in
    let w = g.K.Sink.written c.put_entries.new.sink in
    subst (λ r. Says (session_reply given c.args.session (fetching c.args.cursor c.args.count) now)
    r u w) (sym c.or_write_fault.ensures)
    (fetched_says given now c.args.session c.args.cursor c.args.count
    (sessions_of c.args.sessions.now) (sessions_of c.fetch.follows.lender-at-none) kept
    c.fetch.result c.fetch.follows.holds-at-none c.in-Some.rows c.in-Some.is u w
    c.unwrap_or-periods.result c.periods.result c.periods.ensures c.unwrap_or-periods.ensures
    c.put_entries.result
    c.put_entries.ensures.ok c.put_entries.ensures.all c.put_entries.ensures.part)

pub returns-in-Some-clause-sessions : goal.returns-in-Some-clause-sessions
returns-in-Some-clause-sessions g c = λ given now kept.
    on_ok c.or_write_fault.result _ (fetched_leaves given now c.args.session c.args.cursor
    c.args.count (sessions_of c.args.sessions.now) (sessions_of c.fetch.follows.lender-at-none) kept
    c.fetch.result c.fetch.follows.holds-at-none c.in-Some.rows c.in-Some.is)

pub returns-in-Some-clause-counts : goal.returns-in-Some-clause-counts
returns-in-Some-clause-counts g c =
    subst (λ r. SaidCounted r (g.K.Sink.faults c.args.sink.now)
    (g.K.Sink.faults c.put_entries.new.sink)) (sym c.or_write_fault.ensures)
    (said_counted c.put_entries.result _ _ c.put_entries.ensures.cause)

pub returns-in-None-clause-says : goal.returns-in-None-clause-says
returns-in-None-clause-says g c = λ given now kept.
    let u = g.K.Sink.written c.args.sink.now in
    let w = g.K.Sink.written c.refuse.new.sink in
    let request = fetching c.args.cursor c.args.count in
    subst (λ r. Says (session_reply given c.args.session request now) r u w)
    (sym c.or_write_fault-in-None.ensures)
    (refused_says u w (fault_of need_of (world_of given now) c.args.session request) _ now
    (request_reply given c.args.session request now) c.refuse.result
    (missing_is given now c.args.session c.args.cursor c.args.count
    (sessions_of c.args.sessions.now) (sessions_of c.fetch.follows.lender-at-none) kept
    c.fetch.result c.fetch.follows.holds-at-none c.in-None.is)
    c.refuse.ensures.ok c.refuse.ensures.all c.refuse.ensures.part)

pub returns-in-None-clause-sessions : goal.returns-in-None-clause-sessions
returns-in-None-clause-sessions g c = λ given now kept.
    on_ok c.or_write_fault-in-None.result _ (missing_leaves given now c.args.session c.args.cursor
    c.args.count (sessions_of c.args.sessions.now) (sessions_of c.fetch.follows.lender-at-none) kept
    c.fetch.result c.fetch.follows.holds-at-none c.in-None.is)

pub returns-in-None-clause-counts : goal.returns-in-None-clause-counts
returns-in-None-clause-counts g c =
    subst (λ r. SaidCounted r (g.K.Sink.faults c.args.sink.now) (g.K.Sink.faults c.refuse.new.sink))
    (sym c.or_write_fault-in-None.ensures)
    (said_counted c.refuse.result _ _ c.refuse.ensures.cause)
