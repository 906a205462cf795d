use Rattle.std.proofs.Common.{◌≡◌, refl, ap, sym, subst, ◌∙◌, ◌⊎◌, ⊎_elim, Some, None, Err, inl}
use Rattle.std.proofs.Common.{inr, Ok}
use Rattle.script_cli_vault.specs.ArchiveOnDisk.{below}
use Rattle.sessions.specs.declared.vault.VaultFault.TheVariants as vault
use Rattle.sessions.specs.Meaning.{sessions_of}
use Rattle.sessions.specs.Requests.{committing}
use Rattle.script_cli_vault.specs.Shown.{Shows}
use Rattle.script_cli_statement.specs.Replies.{shared_by, session_reply}
use Rattle.script_cli_statement.specs.Responses.{Responds}
use Rattle.script_cli_statement.specs.StopReasons.{StopCounted}
use Rattle.script_cli_statement.proofs.Responding.{on_ok, still_takes, reason_counted, reason_said}
use Rattle.script_cli_statement.proofs.SessionSaid.{shows_at, line_counted}
use Rattle.script_cli_statement.proofs.SessionCommitted.{done_responds, empty_responds}
use Rattle.script_cli_statement.proofs.SessionCommitted.{refusal_responds, failed_responds}
use Rattle.script_cli_statement.proofs.SessionCommitted.{commit_served, commit_leaves, none_given}
use Rattle.script_cli_statement.proofs.SessionCommitted.{refusal_leaves}
use Rattle.script_cli_statement.proofs.session_response.respond_commit.Goals as goal

either : {A B C : Type 0} → A ⊎ B → (A → C) → (B → C) → C
either it f g = ⊎_elim f g it

-- What comes back is the reference that the vault borrowed (`back`), so that the archive after the
-- call is the vault's; `here` is what is served, of what stands.
pub returns-in-Ok-Some-clause-replies : goal.returns-in-Ok-Some-clause-replies
returns-in-Ok-Some-clause-replies g c = λ given now represents kept.
    let a = c.args.archive.now in
    let b = c.commit.new.vault.archive.now in
    let had = sessions_of c.args.sessions.now in
    let new = sessions_of c.commit.new.self in
    let here = commit_served given now c.args.session c.args.stamp (Shows b) had new kept
    (Ok (Some c.in-Ok-Some.done)) (rw c.in-Ok-Some.field-0-is at
    (c.in-Ok-Some.ensures.serves (shared_by given now)
    (shows_at a given now represents))) in
    let gives = rw c.in-Ok-Some.field-0-is at c.in-Ok-Some.ensures.gives in
    let back : c.archive-1.given.0 ≡ b = c.archive-1.given.1 (sym gives.1.1) in
    rw back (subst (λ r. Responds given
    (session_reply given c.args.session (committing c.args.stamp) now) r a b
    (g.K.Sink.written c.args.sink.now) (g.K.Sink.written c.put_committed.new.sink))
    (sym c.or_write_fault.ensures)
    (done_responds a b given now c.args.session c.args.stamp had new kept _ _
    (g.met.D.Disk.valid a.journal.disk) c.in-Ok-Some.done here gives.0 gives.1.0
    c.put_committed.result c.put_committed.ensures.ok c.put_committed.ensures.all
    c.put_committed.ensures.part))

pub returns-in-Ok-None-clause-replies : goal.returns-in-Ok-None-clause-replies
returns-in-Ok-None-clause-replies g c = λ given now represents kept.
    let a = c.args.archive.now in
    let b = c.commit.new.vault.archive.now in
    let had = sessions_of c.args.sessions.now in
    let new = sessions_of c.commit.new.self in
    let here = commit_served given now c.args.session c.args.stamp (Shows b) had new kept
    (Ok None) (rw c.in-Ok-None.field-0-is at (c.in-Ok-None.ensures.serves (shared_by given now)
    (shows_at a given now represents))) in
    let gives = rw c.in-Ok-None.field-0-is at c.in-Ok-None.ensures.gives in
    let back : c.archive-1.given.0 ≡ b =
    c.archive-1.given.1 (λ i. ((sym gives.1) i).archive.ghost_name) in
    rw back (subst (λ r. Responds given
    (session_reply given c.args.session (committing c.args.stamp) now) r a b
    (g.K.Sink.written c.args.sink.now) (g.K.Sink.written c.put_empty.new.sink))
    (sym c.without_error.ensures)
    (empty_responds a b given now c.args.session c.args.stamp had new kept _ _
    (g.met.D.Disk.valid a.journal.disk) c.put_empty.result (λ i. (gives.1 i).archive.now) here
    gives.0 c.put_empty.ensures.all c.put_empty.ensures.part))

pub returns-in-Err-Refused-clause-replies : goal.returns-in-Err-Refused-clause-replies
returns-in-Err-Refused-clause-replies g c = λ given now represents kept.
    let a = c.args.archive.now in
    let b = c.commit.new.vault.archive.now in
    let had = sessions_of c.args.sessions.now in
    let new = sessions_of c.commit.new.self in
    let here = commit_served given now c.args.session c.args.stamp (Shows b) had new kept
    (Err (vault.Refused c.in-Err-Refused.refusal))
    (rw c.in-Err-Refused.field-0-is at (c.in-Err-Refused.ensures.serves (shared_by given now)
    (shows_at a given now represents))) in
    let gives = rw c.in-Err-Refused.field-0-is at c.in-Err-Refused.ensures.gives in
    let back : c.archive-1.given.0 ≡ b = either gives
    (λ same. c.archive-1.given.1 (λ i. ((sym same) i).archive.ghost_name))
    (λ it. c.archive-1.given.1 (sym it.1.1)) in
    rw back (subst (λ r. Responds given
    (session_reply given c.args.session (committing c.args.stamp) now) r a b
    (g.K.Sink.written c.args.sink.now) (g.K.Sink.written c.refuse.new.sink))
    (sym c.or_write_fault-in-Err-Refused.ensures)
    (refusal_responds a b given now c.args.session c.args.stamp had new kept _ _
    (g.met.D.Disk.valid a.journal.disk) c.in-Err-Refused.refusal c.refuse.result here
    (either gives (λ same. inl (λ i. (same i).archive.now)) (λ it. inr it.1.0))
    c.refuse.ensures.ok c.refuse.ensures.all c.refuse.ensures.part))

pub returns-in-Err-Broken-clause-replies : goal.returns-in-Err-Broken-clause-replies
returns-in-Err-Broken-clause-replies g c = λ given now represents kept.
    let broken = c.commit.ensures.broken_before (c.in-Err-Broken.is
    ∙ ap Err c.in-Err-Broken.field-0-is) in absurd (cc (broken, c.requires.takes))

pub returns-in-Err-Disk-clause-replies : goal.returns-in-Err-Disk-clause-replies
returns-in-Err-Disk-clause-replies g c = λ given now represents kept.
    let a = c.args.archive.now in
    let b = c.commit.new.vault.archive.now in
    let had = sessions_of c.args.sessions.now in
    let new = sessions_of c.commit.new.self in
    let here = commit_served given now c.args.session c.args.stamp (Shows b) had new kept
    (Err vault.Disk) (rw c.in-Err-Disk.field-0-is at
    (c.in-Err-Disk.ensures.serves (shared_by given now)
    (shows_at a given now represents))) in
    let gives = rw c.in-Err-Disk.field-0-is at c.in-Err-Disk.ensures.gives in
    let back : c.archive-1.given.0 ≡ b = c.archive-1.given.1 (sym gives.1.1) in
    let written = g.K.Sink.written c.args.sink.now in
    rw back (
      refl,
      failed_responds a b given now c.args.session c.args.stamp had new kept written written
          (g.met.D.Disk.valid a.journal.disk) here gives.0 gives.1.0,
    )

pub returns-in-Err-NoMemory-clause-replies : goal.returns-in-Err-NoMemory-clause-replies
returns-in-Err-NoMemory-clause-replies g c = λ given now represents kept.
    let a = c.args.archive.now in
    let b = c.commit.new.vault.archive.now in
    let gives = rw c.in-Err-NoMemory.field-0-is at c.in-Err-NoMemory.ensures.gives in
    let back : c.archive-1.given.0 ≡ b = either gives
    (λ same. c.archive-1.given.1 (λ i. ((sym same) i).archive.ghost_name))
    (λ it. c.archive-1.given.1 (sym it.1.1)) in
    rw back (
      refl,
      none_given a b (g.met.D.Disk.valid a.journal.disk) _ _ (λ e. cc)
          (either gives (λ same. inl (λ i. (same i).archive.now)) (λ it. inr it.1.0)),
    )

-- ---- the counts of faults

pub returns-in-Ok-Some-clause-counts : goal.returns-in-Ok-Some-clause-counts
returns-in-Ok-Some-clause-counts g c =
    let b = c.commit.new.vault.archive.now in
    let gives = rw c.in-Ok-Some.field-0-is at c.in-Ok-Some.ensures.gives in
    let back : c.archive-1.given.0 ≡ b = c.archive-1.given.1 (sym gives.1.1) in
    rw back (subst (λ r. StopCounted r (g.K.Sink.faults c.args.sink.now)
    (g.K.Sink.faults c.put_committed.new.sink) (below c.args.archive.now).faults (below b).faults)
    (sym c.or_write_fault.ensures)
    (reason_counted c.put_committed.result _ _ _ _ c.put_committed.ensures.cause
    (c.commit.ensures.unfailed (λ e. cc (e, c.in-Ok-Some.is)))))

pub returns-in-Ok-None-clause-counts : goal.returns-in-Ok-None-clause-counts
returns-in-Ok-None-clause-counts g c =
    let a = c.args.archive.now in
    let b = c.commit.new.vault.archive.now in
    let gives = rw c.in-Ok-None.field-0-is at c.in-Ok-None.ensures.gives in
    let back : c.archive-1.given.0 ≡ b =
    c.archive-1.given.1 (λ i. ((sym gives.1) i).archive.ghost_name) in
    let still : b ≡ a = λ i. (gives.1 i).archive.now in
    rw (back ∙ still) (reason_said c.without_error.result _ _ _
    (rw (← c.without_error.ensures) at (line_counted c.put_empty.result _ _
    c.put_empty.ensures.cause)))

pub returns-in-Err-Refused-clause-counts : goal.returns-in-Err-Refused-clause-counts
returns-in-Err-Refused-clause-counts g c =
    let b = c.commit.new.vault.archive.now in
    let gives = rw c.in-Err-Refused.field-0-is at c.in-Err-Refused.ensures.gives in
    let back : c.archive-1.given.0 ≡ b = either gives
    (λ same. c.archive-1.given.1 (λ i. ((sym same) i).archive.ghost_name))
    (λ it. c.archive-1.given.1 (sym it.1.1)) in
    rw back (subst (λ r. StopCounted r (g.K.Sink.faults c.args.sink.now)
    (g.K.Sink.faults c.refuse.new.sink) (below c.args.archive.now).faults (below b).faults)
    (sym c.or_write_fault-in-Err-Refused.ensures)
    (reason_counted c.refuse.result _ _ _ _ c.refuse.ensures.cause
    (c.commit.ensures.unfailed (λ e. cc (e, c.in-Err-Refused.is, c.in-Err-Refused.field-0-is)))))

pub returns-in-Err-Broken-clause-counts : goal.returns-in-Err-Broken-clause-counts
returns-in-Err-Broken-clause-counts g c =
    let broken = c.commit.ensures.broken_before (c.in-Err-Broken.is
    ∙ ap Err c.in-Err-Broken.field-0-is) in absurd (cc (broken, c.requires.takes))

pub returns-in-Err-Disk-clause-counts : goal.returns-in-Err-Disk-clause-counts
returns-in-Err-Disk-clause-counts g c =
    let b = c.commit.new.vault.archive.now in
    let gives = rw c.in-Err-Disk.field-0-is at c.in-Err-Disk.ensures.gives in
    let back : c.archive-1.given.0 ≡ b = c.archive-1.given.1 (sym gives.1.1) in
    rw back (
      refl,
      (
        gives.1.0.put.puts.goes.counts,
        c.commit.ensures.cause (c.in-Err-Disk.is ∙ ap Err c.in-Err-Disk.field-0-is),
      ),
    )

pub returns-in-Err-NoMemory-clause-counts : goal.returns-in-Err-NoMemory-clause-counts
returns-in-Err-NoMemory-clause-counts g c =
    let b = c.commit.new.vault.archive.now in
    let gives = rw c.in-Err-NoMemory.field-0-is at c.in-Err-NoMemory.ensures.gives in
    let back : c.archive-1.given.0 ≡ b = either gives
    (λ same. c.archive-1.given.1 (λ i. ((sym same) i).archive.ghost_name))
    (λ it. c.archive-1.given.1 (sym it.1.1)) in
    rw back (
      refl,
      c.commit.ensures.unfailed (λ e. cc (e, c.in-Err-NoMemory.is, c.in-Err-NoMemory.field-0-is)),
    )

-- ---- what the sessions then have

pub returns-in-Ok-Some-clause-sessions : goal.returns-in-Ok-Some-clause-sessions
returns-in-Ok-Some-clause-sessions g c = λ given now represents kept.
    let b = c.commit.new.vault.archive.now in
    let new = sessions_of c.commit.new.self in
    on_ok _ _ (commit_leaves given now c.args.session c.args.stamp (Shows b) new
    (Some c.in-Ok-Some.done) (commit_served given now c.args.session c.args.stamp (Shows b)
    (sessions_of c.args.sessions.now) new kept
    (Ok (Some c.in-Ok-Some.done)) (rw c.in-Ok-Some.field-0-is at
    (c.in-Ok-Some.ensures.serves (shared_by given now)
    (shows_at c.args.archive.now given now represents)))))

pub returns-in-Ok-None-clause-sessions : goal.returns-in-Ok-None-clause-sessions
returns-in-Ok-None-clause-sessions g c = λ given now represents kept.
    let b = c.commit.new.vault.archive.now in
    let new = sessions_of c.commit.new.self in
    on_ok _ _ (commit_leaves given now c.args.session c.args.stamp (Shows b) new None
    (commit_served given now c.args.session c.args.stamp (Shows b)
    (sessions_of c.args.sessions.now) new kept
    (Ok None) (rw c.in-Ok-None.field-0-is at (c.in-Ok-None.ensures.serves (shared_by given now)
    (shows_at c.args.archive.now given now represents)))))

pub returns-in-Err-Refused-clause-sessions : goal.returns-in-Err-Refused-clause-sessions
returns-in-Err-Refused-clause-sessions g c = λ given now represents kept.
    let b = c.commit.new.vault.archive.now in
    let new = sessions_of c.commit.new.self in
    on_ok _ _ (refusal_leaves given now c.args.session c.args.stamp (Shows b) new
    c.in-Err-Refused.refusal (commit_served given now c.args.session c.args.stamp (Shows b)
    (sessions_of c.args.sessions.now) new kept
    (Err (vault.Refused c.in-Err-Refused.refusal))
    (rw c.in-Err-Refused.field-0-is at (c.in-Err-Refused.ensures.serves (shared_by given now)
    (shows_at c.args.archive.now given now represents)))))

-- ---- it takes records still

pub returns-in-Ok-Some-clause-takes : goal.returns-in-Ok-Some-clause-takes
returns-in-Ok-Some-clause-takes g c =
    let b = c.commit.new.vault.archive.now in
    let gives = rw c.in-Ok-Some.field-0-is at c.in-Ok-Some.ensures.gives in
    let back : c.archive-1.given.0 ≡ b = c.archive-1.given.1 (sym gives.1.1) in
    rw back (on_ok _ _ (still_takes b
    (λ e. ⊎_elim (λ before. cc (before, c.requires.takes))
    (λ failed. cc (failed, c.in-Ok-Some.is))
    (c.commit.ensures.breaks.0 e))))

pub returns-in-Ok-None-clause-takes : goal.returns-in-Ok-None-clause-takes
returns-in-Ok-None-clause-takes g c =
    let b = c.commit.new.vault.archive.now in
    let gives = rw c.in-Ok-None.field-0-is at c.in-Ok-None.ensures.gives in
    let back : c.archive-1.given.0 ≡ b =
    c.archive-1.given.1 (λ i. ((sym gives.1) i).archive.ghost_name) in
    rw back (on_ok _ _ (still_takes b
    (λ e. ⊎_elim (λ before. cc (before, c.requires.takes))
    (λ failed. cc (failed, c.in-Ok-None.is))
    (c.commit.ensures.breaks.0 e))))

pub returns-in-Err-Refused-clause-takes : goal.returns-in-Err-Refused-clause-takes
returns-in-Err-Refused-clause-takes g c =
    let b = c.commit.new.vault.archive.now in
    let gives = rw c.in-Err-Refused.field-0-is at c.in-Err-Refused.ensures.gives in
    let back : c.archive-1.given.0 ≡ b = either gives
    (λ same. c.archive-1.given.1 (λ i. ((sym same) i).archive.ghost_name))
    (λ it. c.archive-1.given.1 (sym it.1.1)) in
    rw back (on_ok _ _ (still_takes b
    (λ e. ⊎_elim (λ before. cc (before, c.requires.takes))
    (λ failed. cc (failed, c.in-Err-Refused.is, c.in-Err-Refused.field-0-is))
    (c.commit.ensures.breaks.0 e))))
