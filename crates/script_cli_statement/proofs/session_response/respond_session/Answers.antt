use Rattle.std.proofs.Common.{◌≡◌, refl, sym, subst}
use Rattle.std.specs.Prelude.{OnOk}
use Rattle.smo_ops_types.specs.Changes.{changes_of}
use Rattle.temporal_lang_types.specs.Queries.{query_of}
use Rattle.script_cli_vault.specs.ArchiveOnDisk.{below}
use Rattle.sessions.specs.Meaning.{sessions_of}
use Rattle.sessions.specs.Requests.{beginning, buffering, aborting, opening, fetching, closing}
use Rattle.sessions.specs.Requests.{request_of}
use Rattle.script_cli_statement.specs.Replies.{session_reply}
use Rattle.script_cli_statement.specs.StopReasons.{StopCounted}
use Rattle.script_cli_statement.specs.Responses.{Responds, TakesRecords}
use Rattle.script_cli_statement.proofs.Responding.{reason_said, on_ok}
use Rattle.script_cli_statement.proofs.SessionSaid.{request_responds}
use Rattle.script_cli_statement.proofs.session_response.respond_session.Goals as goal

pub returns-in-Begin-clause-replies : goal.returns-in-Begin-clause-replies
returns-in-Begin-clause-replies g c = λ given now represents kept.
    let a = c.args.archive.now in
    let u = g.K.Sink.written c.args.sink.now in
    let w = g.K.Sink.written c.respond_begin.new.sink in
    subst (λ b. Responds given (session_reply given c.args.session (request_of c.args.request) now)
    c.respond_begin.result a b u w) (sym c.respond_begin.ensures.kept)
    (subst (λ r. Responds given (session_reply given c.args.session (request_of r) now)
    c.respond_begin.result a a u w) (sym c.in-Begin.is)
    (request_responds a given now c.args.session (beginning) refl refl refl u w
    c.respond_begin.result
    (g.met.D.Disk.valid a.journal.disk) represents
    (c.respond_begin.ensures.says given now represents kept)))

pub returns-in-Begin-clause-sessions : goal.returns-in-Begin-clause-sessions
returns-in-Begin-clause-sessions g c = λ given now represents kept.
    subst (λ r. OnOk c.respond_begin.result (sessions_of c.respond_begin.new.sessions
    ≡ (session_reply given c.args.session (request_of r) now).after.sessions)) (sym c.in-Begin.is)
    (c.respond_begin.ensures.sessions given now represents kept)

pub returns-in-Begin-clause-counts : goal.returns-in-Begin-clause-counts
returns-in-Begin-clause-counts g c =
    subst (λ b. StopCounted c.respond_begin.result (g.K.Sink.faults c.args.sink.now)
    (g.K.Sink.faults c.respond_begin.new.sink) (below c.args.archive.now).faults (below b).faults)
    (sym c.respond_begin.ensures.kept)
    (reason_said c.respond_begin.result _ _ _ c.respond_begin.ensures.counts)

pub returns-in-Begin-clause-takes : goal.returns-in-Begin-clause-takes
returns-in-Begin-clause-takes g c = on_ok _ _
    (subst TakesRecords (sym c.respond_begin.ensures.kept) c.requires.takes)

pub returns-in-Do-clause-replies : goal.returns-in-Do-clause-replies
returns-in-Do-clause-replies g c = λ given now represents kept.
    let a = c.args.archive.now in
    let u = g.K.Sink.written c.args.sink.now in
    let w = g.K.Sink.written c.respond_do.new.sink in
    subst (λ r. Responds given (session_reply given c.args.session (request_of r) now)
    c.respond_do.result a a u w) (sym c.in-Do.is)
    (request_responds a given now c.args.session (buffering (changes_of c.in-Do.changes.items)) refl
    refl refl u w c.respond_do.result
    (g.met.D.Disk.valid a.journal.disk) represents (c.respond_do.ensures.says given now kept))

pub returns-in-Do-clause-sessions : goal.returns-in-Do-clause-sessions
returns-in-Do-clause-sessions g c = λ given now represents kept.
    subst (λ r. OnOk c.respond_do.result (sessions_of c.respond_do.new.sessions
    ≡ (session_reply given c.args.session (request_of r) now).after.sessions)) (sym c.in-Do.is)
    (c.respond_do.ensures.sessions given now kept)

pub returns-in-Do-clause-counts : goal.returns-in-Do-clause-counts
returns-in-Do-clause-counts g c = reason_said c.respond_do.result _ _ _ c.respond_do.ensures.counts

pub returns-in-Do-clause-takes : goal.returns-in-Do-clause-takes
returns-in-Do-clause-takes g c = on_ok _ _ c.requires.takes

pub returns-in-Abort-clause-replies : goal.returns-in-Abort-clause-replies
returns-in-Abort-clause-replies g c = λ given now represents kept.
    let a = c.args.archive.now in
    let u = g.K.Sink.written c.args.sink.now in
    let w = g.K.Sink.written c.respond_abort.new.sink in
    subst (λ r. Responds given (session_reply given c.args.session (request_of r) now)
    c.respond_abort.result a a u w) (sym c.in-Abort.is)
    (request_responds a given now c.args.session (aborting) refl refl refl u w
    c.respond_abort.result
    (g.met.D.Disk.valid a.journal.disk) represents (c.respond_abort.ensures.says given now kept))

pub returns-in-Abort-clause-sessions : goal.returns-in-Abort-clause-sessions
returns-in-Abort-clause-sessions g c = λ given now represents kept.
    subst (λ r. OnOk c.respond_abort.result (sessions_of c.respond_abort.new.sessions
    ≡ (session_reply given c.args.session (request_of r) now).after.sessions)) (sym c.in-Abort.is)
    (c.respond_abort.ensures.sessions given now kept)

pub returns-in-Abort-clause-counts : goal.returns-in-Abort-clause-counts
returns-in-Abort-clause-counts g c = reason_said c.respond_abort.result _ _ _
    c.respond_abort.ensures.counts

pub returns-in-Abort-clause-takes : goal.returns-in-Abort-clause-takes
returns-in-Abort-clause-takes g c = on_ok _ _ c.requires.takes

pub returns-in-Open-clause-replies : goal.returns-in-Open-clause-replies
returns-in-Open-clause-replies g c = λ given now represents kept.
    let a = c.args.archive.now in
    let u = g.K.Sink.written c.args.sink.now in
    let w = g.K.Sink.written c.respond_open.new.sink in
    subst (λ b. Responds given (session_reply given c.args.session (request_of c.args.request) now)
    c.respond_open.result a b u w) (sym c.respond_open.ensures.kept)
    (subst (λ r. Responds given (session_reply given c.args.session (request_of r) now)
    c.respond_open.result a a u w) (sym c.in-Open.is)
    (request_responds a given now c.args.session
    (opening c.in-Open.cursor (query_of c.in-Open.query)) refl refl refl u w
    c.respond_open.result
    (g.met.D.Disk.valid a.journal.disk) represents
    (c.respond_open.ensures.says given now represents kept)))

pub returns-in-Open-clause-sessions : goal.returns-in-Open-clause-sessions
returns-in-Open-clause-sessions g c = λ given now represents kept.
    subst (λ r. OnOk c.respond_open.result (sessions_of c.respond_open.new.sessions
    ≡ (session_reply given c.args.session (request_of r) now).after.sessions)) (sym c.in-Open.is)
    (c.respond_open.ensures.sessions given now represents kept)

pub returns-in-Open-clause-counts : goal.returns-in-Open-clause-counts
returns-in-Open-clause-counts g c =
    subst (λ b. StopCounted c.respond_open.result (g.K.Sink.faults c.args.sink.now)
    (g.K.Sink.faults c.respond_open.new.sink) (below c.args.archive.now).faults (below b).faults)
    (sym c.respond_open.ensures.kept)
    (reason_said c.respond_open.result _ _ _ c.respond_open.ensures.counts)

pub returns-in-Open-clause-takes : goal.returns-in-Open-clause-takes
returns-in-Open-clause-takes g c = on_ok _ _
    (subst TakesRecords (sym c.respond_open.ensures.kept) c.requires.takes)

pub returns-in-Fetch-clause-replies : goal.returns-in-Fetch-clause-replies
returns-in-Fetch-clause-replies g c = λ given now represents kept.
    let a = c.args.archive.now in
    let u = g.K.Sink.written c.args.sink.now in
    let w = g.K.Sink.written c.respond_fetch.new.sink in
    subst (λ r. Responds given (session_reply given c.args.session (request_of r) now)
    c.respond_fetch.result a a u w) (sym c.in-Fetch.is)
    (request_responds a given now c.args.session (fetching c.in-Fetch.cursor c.in-Fetch.count) refl
    refl refl u w c.respond_fetch.result
    (g.met.D.Disk.valid a.journal.disk) represents (c.respond_fetch.ensures.says given now kept))

pub returns-in-Fetch-clause-sessions : goal.returns-in-Fetch-clause-sessions
returns-in-Fetch-clause-sessions g c = λ given now represents kept.
    subst (λ r. OnOk c.respond_fetch.result (sessions_of c.respond_fetch.new.sessions
    ≡ (session_reply given c.args.session (request_of r) now).after.sessions)) (sym c.in-Fetch.is)
    (c.respond_fetch.ensures.sessions given now kept)

pub returns-in-Fetch-clause-counts : goal.returns-in-Fetch-clause-counts
returns-in-Fetch-clause-counts g c = reason_said c.respond_fetch.result _ _ _
    c.respond_fetch.ensures.counts

pub returns-in-Fetch-clause-takes : goal.returns-in-Fetch-clause-takes
returns-in-Fetch-clause-takes g c = on_ok _ _ c.requires.takes

pub returns-in-Close-clause-replies : goal.returns-in-Close-clause-replies
returns-in-Close-clause-replies g c = λ given now represents kept.
    let a = c.args.archive.now in
    let u = g.K.Sink.written c.args.sink.now in
    let w = g.K.Sink.written c.respond_close.new.sink in
    subst (λ r. Responds given (session_reply given c.args.session (request_of r) now)
    c.respond_close.result a a u w) (sym c.in-Close.is)
    (request_responds a given now c.args.session (closing c.in-Close.cursor) refl refl refl u w
    c.respond_close.result
    (g.met.D.Disk.valid a.journal.disk) represents (c.respond_close.ensures.says given now kept))

pub returns-in-Close-clause-sessions : goal.returns-in-Close-clause-sessions
returns-in-Close-clause-sessions g c = λ given now represents kept.
    subst (λ r. OnOk c.respond_close.result (sessions_of c.respond_close.new.sessions
    ≡ (session_reply given c.args.session (request_of r) now).after.sessions)) (sym c.in-Close.is)
    (c.respond_close.ensures.sessions given now kept)

pub returns-in-Close-clause-counts : goal.returns-in-Close-clause-counts
returns-in-Close-clause-counts g c = reason_said c.respond_close.result _ _ _
    c.respond_close.ensures.counts

pub returns-in-Close-clause-takes : goal.returns-in-Close-clause-takes
returns-in-Close-clause-takes g c = on_ok _ _ c.requires.takes

-- ---- COMMIT

pub respond_commit-requires : goal.respond_commit-requires
respond_commit-requires g c = record {
  takes = c.requires.takes;
  timely = rw c.in-Commit.is at c.requires.timely;
}

pub returns-in-Commit-clause-replies : goal.returns-in-Commit-clause-replies
returns-in-Commit-clause-replies g c = λ given now represents kept.
    subst (λ r. Responds given (session_reply given c.args.session (request_of r) now)
    c.respond_commit.result c.args.archive.now c.respond_commit.new.archive
    (g.K.Sink.written c.args.sink.now) (g.K.Sink.written c.respond_commit.new.sink))
    (sym c.in-Commit.is) (c.respond_commit.ensures.replies given now represents kept)

pub returns-in-Commit-clause-sessions : goal.returns-in-Commit-clause-sessions
returns-in-Commit-clause-sessions g c = λ given now represents kept.
    subst (λ r. OnOk c.respond_commit.result (sessions_of c.respond_commit.new.sessions
    ≡ (session_reply given c.args.session (request_of r) now).after.sessions))
    (sym c.in-Commit.is) (c.respond_commit.ensures.sessions given now represents kept)
