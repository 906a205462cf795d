use Rattle.std.proofs.Common.{◌≡◌, refl, sym, subst, ◌∙◌, List, ℕ, []}
use Rattle.std.specs.Prelude.{Some, None, OnOk}
use Rattle.smo_ops_spec.specs.Checks.{Fault}
use Rattle.piece_ir_spec.specs.Rules.{Book}
use Rattle.temporal_lang_types.specs.Queries.{query_of}
use Rattle.temporal_lang_spec.specs.Accepted.{version_fault, fault_of_query}
use Rattle.sessions.specs.Meaning.{sessions_of}
use Rattle.script_parse.specs.Statements.{statement_of}
use Rattle.script_cli_statement.specs.Replies.{Recorded, query_reply, explain_reply, versions_reply}
use Rattle.script_cli_statement.specs.Replies.{schema_reply, sizes_reply, statement_reply}
use Rattle.script_cli_statement.specs.Replies.{pairs_reply, aggregate_reply}
use Rattle.temporal_lang_spec.specs.PairFaults.{fault_of_pairs}
use Rattle.temporal_lang_spec.specs.AggregateFaults.{fault_of_aggregate}
use Rattle.script_cli_statement.specs.Replies.{refused_or}
use Rattle.script_cli_statement.specs.Replies.{answered}
use Rattle.script_cli_statement.specs.Responses.{Says, Responds}
use Rattle.script_cli_statement.specs.Replies.{cursors_reply}
use Rattle.script_cli_statement.proofs.SessionSteps.{IsOfNoSession, others_same}
use Rattle.script_cli_statement.proofs.Responding.{says_responds, reason_said, on_ok}
use Rattle.script_cli_statement.proofs.response.respond_statement.Goals as goal

no_puts : (fault : Fault) (now : Recorded) (text : List ℕ)
    → (refused_or fault now (answered text now)).puts ≡ []
no_puts None now text = refl
no_puts (Some r) now text = refl

same_after : (fault : Fault) (now : Recorded) (text : List ℕ)
    → (refused_or fault now (answered text now)).after ≡ now
same_after None now text = refl
same_after (Some r) now text = refl

pub returns-in-Ask-clause-replies : goal.returns-in-Ask-clause-replies
returns-in-Ask-clause-replies g c = λ limit same now represents kept.
    let a = c.args.archive.now in
    let query = query_of c.in-Ask.query in
    subst (λ s. Responds limit (statement_reply limit (statement_of s) now) c.respond_ask.result a a
    (g.K.Sink.written c.args.sink.now) (g.K.Sink.written c.respond_ask.new.sink))
    (sym c.in-Ask.is)
    (says_responds _ _ limit now a a (query_reply query now) c.respond_ask.result
    (g.met.D.Disk.valid a.journal.disk) represents
    (no_puts (fault_of_query now.past query) now _)
    (same_after (fault_of_query now.past query) now _)
    (c.respond_ask.ensures.says now represents.past))

pub returns-in-Explain-clause-replies : goal.returns-in-Explain-clause-replies
returns-in-Explain-clause-replies g c = λ limit same now represents kept.
    let a = c.args.archive.now in
    let query = query_of c.in-Explain.query in
    subst (λ s. Responds limit (statement_reply limit (statement_of s) now) c.respond_explain.result
    a a (g.K.Sink.written c.args.sink.now) (g.K.Sink.written c.respond_explain.new.sink))
    (sym c.in-Explain.is)
    (says_responds _ _ limit now a a (explain_reply limit.book query now) c.respond_explain.result
    (g.met.D.Disk.valid a.journal.disk) represents
    (no_puts (fault_of_query now.past query) now _)
    (same_after (fault_of_query now.past query) now _)
    (subst (λ (b : Book). Says (explain_reply b query now) c.respond_explain.result
    (g.K.Sink.written c.args.sink.now) (g.K.Sink.written c.respond_explain.new.sink)) (sym same)
    (c.respond_explain.ensures.says now represents.past)))

pub returns-in-Pairs-clause-replies : goal.returns-in-Pairs-clause-replies
returns-in-Pairs-clause-replies g c = λ limit same now represents kept.
    let a = c.args.archive.now in
    let left = query_of c.in-Pairs.left in
    let right = query_of c.in-Pairs.right in
    subst (λ s. Responds limit (statement_reply limit (statement_of s) now) c.respond_pairs.result
    a a (g.K.Sink.written c.args.sink.now) (g.K.Sink.written c.respond_pairs.new.sink))
    (sym c.in-Pairs.is)
    (says_responds _ _ limit now a a (pairs_reply left c.in-Pairs.relation right now)
    c.respond_pairs.result (g.met.D.Disk.valid a.journal.disk) represents
    (no_puts (fault_of_pairs now.past left right) now _)
    (same_after (fault_of_pairs now.past left right) now _)
    (c.respond_pairs.ensures.says now represents.past))

pub returns-in-Aggregate-clause-replies : goal.returns-in-Aggregate-clause-replies
returns-in-Aggregate-clause-replies g c = λ limit same now represents kept.
    let a = c.args.archive.now in
    let query = query_of c.in-Aggregate.query in
    let items = c.in-Aggregate.items.items in
    let group = c.in-Aggregate.group in
    subst (λ s. Responds limit (statement_reply limit (statement_of s) now)
    c.respond_aggregate.result a a (g.K.Sink.written c.args.sink.now)
    (g.K.Sink.written c.respond_aggregate.new.sink)) (sym c.in-Aggregate.is)
    (says_responds _ _ limit now a a (aggregate_reply items group query now)
    c.respond_aggregate.result (g.met.D.Disk.valid a.journal.disk) represents
    (no_puts (fault_of_aggregate now.past items group query) now _)
    (same_after (fault_of_aggregate now.past items group query) now _)
    (rw c.deref.ensures.value at (c.respond_aggregate.ensures.says now represents.past)))

pub returns-in-ShowVersions-clause-replies : goal.returns-in-ShowVersions-clause-replies
returns-in-ShowVersions-clause-replies g c = λ limit same now represents kept.
    let a = c.args.archive.now in
    subst (λ s. Responds limit (statement_reply limit (statement_of s) now)
    c.respond_versions.result a a (g.K.Sink.written c.args.sink.now)
    (g.K.Sink.written c.respond_versions.new.sink)) (sym c.in-ShowVersions.is)
    (says_responds _ _ limit now a a (versions_reply now) c.respond_versions.result
    (g.met.D.Disk.valid a.journal.disk) represents refl refl
    (c.respond_versions.ensures.says now represents.past))

pub returns-in-ShowSchema-clause-replies : goal.returns-in-ShowSchema-clause-replies
returns-in-ShowSchema-clause-replies g c = λ limit same now represents kept.
    let a = c.args.archive.now in
    let version = c.in-ShowSchema.version in
    subst (λ s. Responds limit (statement_reply limit (statement_of s) now) c.respond_schema.result
    a a (g.K.Sink.written c.args.sink.now) (g.K.Sink.written c.respond_schema.new.sink))
    (sym c.in-ShowSchema.is)
    (says_responds _ _ limit now a a (schema_reply version now) c.respond_schema.result
    (g.met.D.Disk.valid a.journal.disk) represents
    (no_puts (version_fault now.past version) now _)
    (same_after (version_fault now.past version) now _)
    (c.respond_schema.ensures.says now represents.past))

pub returns-in-ShowSizes-clause-replies : goal.returns-in-ShowSizes-clause-replies
returns-in-ShowSizes-clause-replies g c = λ limit same now represents kept.
    let a = c.args.archive.now in
    subst (λ s. Responds limit (statement_reply limit (statement_of s) now) c.respond_sizes.result a
    a (g.K.Sink.written c.args.sink.now) (g.K.Sink.written c.respond_sizes.new.sink))
    (sym c.in-ShowSizes.is)
    (says_responds _ _ limit now a a (sizes_reply now) c.respond_sizes.result
    (g.met.D.Disk.valid a.journal.disk) represents refl refl
    (c.respond_sizes.ensures.says now represents.past))

pub returns-in-Ask-clause-counts : goal.returns-in-Ask-clause-counts
returns-in-Ask-clause-counts g c = reason_said c.respond_ask.result _ _ _
    c.respond_ask.ensures.counts

pub returns-in-Explain-clause-counts : goal.returns-in-Explain-clause-counts
returns-in-Explain-clause-counts g c = reason_said c.respond_explain.result _ _ _
    c.respond_explain.ensures.counts

pub returns-in-ShowVersions-clause-counts : goal.returns-in-ShowVersions-clause-counts
returns-in-ShowVersions-clause-counts g c = reason_said c.respond_versions.result _ _ _
    c.respond_versions.ensures.counts

pub returns-in-ShowSchema-clause-counts : goal.returns-in-ShowSchema-clause-counts
returns-in-ShowSchema-clause-counts g c = reason_said c.respond_schema.result _ _ _
    c.respond_schema.ensures.counts

pub returns-in-ShowSizes-clause-counts : goal.returns-in-ShowSizes-clause-counts
returns-in-ShowSizes-clause-counts g c = reason_said c.respond_sizes.result _ _ _
    c.respond_sizes.ensures.counts

pub returns-in-Ask-clause-takes : goal.returns-in-Ask-clause-takes
returns-in-Ask-clause-takes g c = on_ok _ _ c.requires.takes

pub returns-in-Explain-clause-takes : goal.returns-in-Explain-clause-takes
returns-in-Explain-clause-takes g c = on_ok _ _ c.requires.takes

pub returns-in-ShowVersions-clause-takes : goal.returns-in-ShowVersions-clause-takes
returns-in-ShowVersions-clause-takes g c = on_ok _ _ c.requires.takes

pub returns-in-ShowSchema-clause-takes : goal.returns-in-ShowSchema-clause-takes
returns-in-ShowSchema-clause-takes g c = on_ok _ _ c.requires.takes

pub returns-in-ShowSizes-clause-takes : goal.returns-in-ShowSizes-clause-takes
returns-in-ShowSizes-clause-takes g c = on_ok _ _ c.requires.takes

pub returns-in-Pairs-clause-counts : goal.returns-in-Pairs-clause-counts
returns-in-Pairs-clause-counts g c = reason_said c.respond_pairs.result _ _ _
    c.respond_pairs.ensures.counts

pub returns-in-Pairs-clause-takes : goal.returns-in-Pairs-clause-takes
returns-in-Pairs-clause-takes g c = on_ok _ _ c.requires.takes

pub returns-in-Aggregate-clause-counts : goal.returns-in-Aggregate-clause-counts
returns-in-Aggregate-clause-counts g c = reason_said c.respond_aggregate.result _ _ _
    c.respond_aggregate.ensures.counts

pub returns-in-Aggregate-clause-takes : goal.returns-in-Aggregate-clause-takes
returns-in-Aggregate-clause-takes g c = on_ok _ _ c.requires.takes

-- ---- commands, checkpoints and sessions

pub returns-in-Write-clause-replies : goal.returns-in-Write-clause-replies
returns-in-Write-clause-replies g c = λ limit same now represents kept.
    subst (λ s. Responds limit (statement_reply limit (statement_of s) now) c.respond_write.result
    c.args.archive.now c.respond_write.new.archive (g.K.Sink.written c.args.sink.now)
    (g.K.Sink.written c.respond_write.new.sink)) (sym c.in-Write.is)
    (c.respond_write.ensures.replies limit now represents)

pub returns-in-Checkpoint-clause-replies : goal.returns-in-Checkpoint-clause-replies
returns-in-Checkpoint-clause-replies g c = λ limit same now represents kept.
    subst (λ s. Responds limit (statement_reply limit (statement_of s) now)
    c.respond_checkpoint.result c.args.archive.now c.respond_checkpoint.new.archive
    (g.K.Sink.written c.args.sink.now) (g.K.Sink.written c.respond_checkpoint.new.sink))
    (sym c.in-Checkpoint.is) (c.respond_checkpoint.ensures.replies limit now represents)

pub returns-in-Session-clause-replies : goal.returns-in-Session-clause-replies
returns-in-Session-clause-replies g c = λ limit same now represents kept.
    subst (λ s. Responds limit (statement_reply limit (statement_of s) now) c.respond_session.result
    c.args.archive.now c.respond_session.new.archive (g.K.Sink.written c.args.sink.now)
    (g.K.Sink.written c.respond_session.new.sink)) (sym c.in-Session.is)
    (c.respond_session.ensures.replies limit now represents kept)

pub respond_session-requires : goal.respond_session-requires
respond_session-requires g c = record {
  takes = c.requires.takes;
  timely = rw c.in-Session.is at c.requires.timely;
}

pub returns-in-ShowCursors-clause-replies : goal.returns-in-ShowCursors-clause-replies
returns-in-ShowCursors-clause-replies g c = λ limit same now represents kept.
    let a = c.args.archive.now in
    subst (λ s. Responds limit (statement_reply limit (statement_of s) now)
    c.respond_cursors.result a a (g.K.Sink.written c.args.sink.now)
    (g.K.Sink.written c.respond_cursors.new.sink)) (sym c.in-ShowCursors.is)
    (says_responds _ _ limit now a a (cursors_reply now) c.respond_cursors.result
    (g.met.D.Disk.valid a.journal.disk) represents refl refl
    (c.respond_cursors.ensures.says now kept))

pub returns-in-ShowCursors-clause-counts : goal.returns-in-ShowCursors-clause-counts
returns-in-ShowCursors-clause-counts g c = reason_said c.respond_cursors.result _ _ _
    c.respond_cursors.ensures.counts

pub returns-in-ShowCursors-clause-takes : goal.returns-in-ShowCursors-clause-takes
returns-in-ShowCursors-clause-takes g c = on_ok _ _ c.requires.takes

-- ---- what the sessions then have

pub returns-in-Session-clause-sessions : goal.returns-in-Session-clause-sessions
returns-in-Session-clause-sessions g c = λ limit now represents kept.
    subst (λ s. OnOk c.respond_session.result (sessions_of c.respond_session.new.sessions
    ≡ (statement_reply limit (statement_of s) now).after.sessions)) (sym c.in-Session.is)
    (c.respond_session.ensures.sessions limit now represents kept)

pub returns-in-Write-clause-sessions : goal.returns-in-Write-clause-sessions
returns-in-Write-clause-sessions g c = λ limit now represents kept.
    on_ok _ _ (kept ∙ sym (others_same limit now (statement_of c.args.statement)
    (subst (λ s. IsOfNoSession (statement_of s)) (sym c.in-Write.is) tt)))

pub returns-in-Ask-clause-sessions : goal.returns-in-Ask-clause-sessions
returns-in-Ask-clause-sessions g c = λ limit now represents kept.
    on_ok _ _ (kept ∙ sym (others_same limit now (statement_of c.args.statement)
    (subst (λ s. IsOfNoSession (statement_of s)) (sym c.in-Ask.is) tt)))

pub returns-in-Explain-clause-sessions : goal.returns-in-Explain-clause-sessions
returns-in-Explain-clause-sessions g c = λ limit now represents kept.
    on_ok _ _ (kept ∙ sym (others_same limit now (statement_of c.args.statement)
    (subst (λ s. IsOfNoSession (statement_of s)) (sym c.in-Explain.is) tt)))

pub returns-in-Pairs-clause-sessions : goal.returns-in-Pairs-clause-sessions
returns-in-Pairs-clause-sessions g c = λ limit now represents kept.
    on_ok _ _ (kept ∙ sym (others_same limit now (statement_of c.args.statement)
    (subst (λ s. IsOfNoSession (statement_of s)) (sym c.in-Pairs.is) tt)))

pub returns-in-Aggregate-clause-sessions : goal.returns-in-Aggregate-clause-sessions
returns-in-Aggregate-clause-sessions g c = λ limit now represents kept.
    on_ok _ _ (kept ∙ sym (others_same limit now (statement_of c.args.statement)
    (subst (λ s. IsOfNoSession (statement_of s)) (sym c.in-Aggregate.is) tt)))

pub returns-in-ShowVersions-clause-sessions : goal.returns-in-ShowVersions-clause-sessions
returns-in-ShowVersions-clause-sessions g c = λ limit now represents kept.
    on_ok _ _ (kept ∙ sym (others_same limit now (statement_of c.args.statement)
    (subst (λ s. IsOfNoSession (statement_of s)) (sym c.in-ShowVersions.is) tt)))

pub returns-in-ShowSchema-clause-sessions : goal.returns-in-ShowSchema-clause-sessions
returns-in-ShowSchema-clause-sessions g c = λ limit now represents kept.
    on_ok _ _ (kept ∙ sym (others_same limit now (statement_of c.args.statement)
    (subst (λ s. IsOfNoSession (statement_of s)) (sym c.in-ShowSchema.is) tt)))

pub returns-in-ShowSizes-clause-sessions : goal.returns-in-ShowSizes-clause-sessions
returns-in-ShowSizes-clause-sessions g c = λ limit now represents kept.
    on_ok _ _ (kept ∙ sym (others_same limit now (statement_of c.args.statement)
    (subst (λ s. IsOfNoSession (statement_of s)) (sym c.in-ShowSizes.is) tt)))

pub returns-in-ShowCursors-clause-sessions : goal.returns-in-ShowCursors-clause-sessions
returns-in-ShowCursors-clause-sessions g c = λ limit now represents kept.
    on_ok _ _ (kept ∙ sym (others_same limit now (statement_of c.args.statement)
    (subst (λ s. IsOfNoSession (statement_of s)) (sym c.in-ShowCursors.is) tt)))

pub returns-in-Checkpoint-clause-sessions : goal.returns-in-Checkpoint-clause-sessions
returns-in-Checkpoint-clause-sessions g c = λ limit now represents kept.
    on_ok _ _ (kept ∙ sym (others_same limit now (statement_of c.args.statement)
    (subst (λ s. IsOfNoSession (statement_of s)) (sym c.in-Checkpoint.is) tt)))
