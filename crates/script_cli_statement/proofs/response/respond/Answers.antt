use Rattle.std.proofs.Common.{◌≡◌, ap, subst, ◌∙◌}
use Rattle.std.specs.Prelude.{OnOk}
use Rattle.sessions.specs.Meaning.{sessions_of}
use Rattle.script_parse.specs.Statements.{statement_of}
use Rattle.script_parse.specs.Reading.{Blank, Refused, Whole}
use Rattle.prima_base.specs.declared.refusal.Refusal.TheVariants.{Syntax, TooMany}
use Rattle.script_cli_statement.specs.Replies.{Reply, reply}
use Rattle.script_cli_statement.proofs.WrittenStatements.{read_timely}
use Rattle.script_cli_statement.proofs.Responding.{reply_is}
use Rattle.script_cli_statement.proofs.Responding.{on_ok, blank_responds, read_responds}
use Rattle.script_cli_statement.proofs.Responding.{unread_responds, memory_responds, said_reason}
use Rattle.script_cli_statement.proofs.response.respond.Goals as goal

pub returns-in-Ok-None-clause-replies : goal.returns-in-Ok-None-clause-replies
returns-in-Ok-None-clause-replies g c = λ limit same now represents kept.
    let a = c.args.archive.now in
    blank_responds a a limit now c.args.text.now (g.K.Sink.written c.args.sink.now)
    (g.K.Sink.written c.args.sink.now) (rw c.in-Ok-None.field-0-is at
    c.in-Ok-None.ensures.exact) (g.met.D.Disk.valid a.journal.disk) represents

pub returns-in-Ok-Some-clause-replies : goal.returns-in-Ok-Some-clause-replies
returns-in-Ok-Some-clause-replies g c = λ limit same now represents kept.
    read_responds c.args.archive.now c.respond_statement.new.archive limit now c.args.text.now _ _
    (statement_of c.in-Ok-Some.statement) c.respond_statement.result
    (rw c.in-Ok-Some.field-0-is at c.in-Ok-Some.ensures.exact)
    (c.respond_statement.ensures.replies limit same now represents kept)

pub returns-in-Err-Syntax-clause-replies : goal.returns-in-Err-Syntax-clause-replies
returns-in-Err-Syntax-clause-replies g c = λ limit same now represents kept.
    let a = c.args.archive.now in
    unread_responds a a limit now c.args.text.now _ _ (Syntax c.in-Err-Syntax.at) c.refuse.result
    c.or_write_fault.result (rw c.in-Err-Syntax.field-0-is at c.in-Err-Syntax.ensures.exact)
    c.or_write_fault.ensures (g.met.D.Disk.valid a.journal.disk) represents c.refuse.ensures.ok
    (rw c.in-Err-Syntax.field-0-is at c.refuse.ensures.all)
    (rw c.in-Err-Syntax.field-0-is at c.refuse.ensures.part)

pub returns-in-Err-TooMany-clause-replies : goal.returns-in-Err-TooMany-clause-replies
returns-in-Err-TooMany-clause-replies g c = λ limit same now represents kept.
    let a = c.args.archive.now in
    unread_responds a a limit now c.args.text.now _ _
    (TooMany c.in-Err-TooMany.what c.in-Err-TooMany.limit) c.refuse-in-Err-TooMany.result
    c.or_write_fault-in-Err-TooMany.result
    (rw c.in-Err-TooMany.field-0-is at c.in-Err-TooMany.ensures.exact)
    c.or_write_fault-in-Err-TooMany.ensures (g.met.D.Disk.valid a.journal.disk) represents
    c.refuse-in-Err-TooMany.ensures.ok
    (rw c.in-Err-TooMany.field-0-is at c.refuse-in-Err-TooMany.ensures.all)
    (rw c.in-Err-TooMany.field-0-is at c.refuse-in-Err-TooMany.ensures.part)

pub returns-in-Err-NoMemory-clause-replies : goal.returns-in-Err-NoMemory-clause-replies
returns-in-Err-NoMemory-clause-replies g c = λ limit same now represents kept.
    let a = c.args.archive.now in memory_responds a a limit now c.args.text.now
    (g.K.Sink.written c.args.sink.now) (g.K.Sink.written c.args.sink.now)
    (reply limit now c.args.text.now) (g.met.D.Disk.valid a.journal.disk)

pub returns-in-Err-Syntax-clause-takes : goal.returns-in-Err-Syntax-clause-takes
returns-in-Err-Syntax-clause-takes g c = on_ok _ _ c.requires.takes

pub returns-in-Err-TooMany-clause-takes : goal.returns-in-Err-TooMany-clause-takes
returns-in-Err-TooMany-clause-takes g c = on_ok _ _ c.requires.takes

pub returns-in-Err-Syntax-clause-counts : goal.returns-in-Err-Syntax-clause-counts
returns-in-Err-Syntax-clause-counts g c = said_reason c.refuse.result _ _ _ _
    c.or_write_fault.ensures
    c.refuse.ensures.cause

pub returns-in-Err-TooMany-clause-counts : goal.returns-in-Err-TooMany-clause-counts
returns-in-Err-TooMany-clause-counts g c = said_reason c.refuse-in-Err-TooMany.result _ _ _ _
    c.or_write_fault-in-Err-TooMany.ensures c.refuse-in-Err-TooMany.ensures.cause

pub respond_statement-requires : goal.respond_statement-requires
respond_statement-requires g c = record {
  takes = c.requires.takes;
  timely = read_timely c.args.text.now (statement_of c.in-Ok-Some.statement)
      (rw c.in-Ok-Some.field-0-is at c.in-Ok-Some.ensures.exact);
}

-- ---- what the sessions then have

pub returns-in-Ok-None-clause-sessions : goal.returns-in-Ok-None-clause-sessions
returns-in-Ok-None-clause-sessions g c = λ limit now represents kept.
    kept ∙ ap (λ (r : Reply). r.after.sessions) (reply_is limit now c.args.text.now Blank
    (rw c.in-Ok-None.field-0-is at c.in-Ok-None.ensures.exact))

pub returns-in-Ok-Some-clause-sessions : goal.returns-in-Ok-Some-clause-sessions
returns-in-Ok-Some-clause-sessions g c = λ limit now represents kept.
    subst (λ r. OnOk c.respond_statement.result
    (sessions_of c.respond_statement.new.sessions ≡ r.after.sessions))
    (reply_is limit now c.args.text.now (Whole (statement_of c.in-Ok-Some.statement))
    (rw c.in-Ok-Some.field-0-is at c.in-Ok-Some.ensures.exact))
    (c.respond_statement.ensures.sessions limit now represents kept)

pub returns-in-Err-Syntax-clause-sessions : goal.returns-in-Err-Syntax-clause-sessions
returns-in-Err-Syntax-clause-sessions g c = λ limit now represents kept.
    on_ok _ _ (kept ∙ ap (λ (r : Reply). r.after.sessions) (reply_is limit now c.args.text.now
    (Refused (Syntax c.in-Err-Syntax.at))
    (rw c.in-Err-Syntax.field-0-is at c.in-Err-Syntax.ensures.exact)))

pub returns-in-Err-TooMany-clause-sessions : goal.returns-in-Err-TooMany-clause-sessions
returns-in-Err-TooMany-clause-sessions g c = λ limit now represents kept.
    on_ok _ _ (kept ∙ ap (λ (r : Reply). r.after.sessions) (reply_is limit now c.args.text.now
    (Refused (TooMany c.in-Err-TooMany.what c.in-Err-TooMany.limit))
    (rw c.in-Err-TooMany.field-0-is at c.in-Err-TooMany.ensures.exact)))
