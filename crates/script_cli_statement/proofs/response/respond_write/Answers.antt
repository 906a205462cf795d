use Rattle.std.proofs.Common.{ap, sym, subst, refl, ◌∙◌, ⊎_elim, [], ◌∷◌, Some, None, Err}
use Rattle.smo_ops_types.specs.Commands.{command_of}
use Rattle.archive_core_file_spec.specs.LogRecords.{logged}
use Rattle.script_cli_vault.specs.ArchiveOnDisk.{below, place_of, commit_fault}
use Rattle.script_cli_statement.specs.Due.{command_due}
use Rattle.script_cli_statement.specs.Replies.{command_reply, put_command}
use Rattle.script_cli_statement.specs.StopReasons.{StopCounted}
use Rattle.script_cli_statement.specs.Responses.{Responds}
use Rattle.script_cli_statement.proofs.OnePut.{put_one}
use Rattle.script_cli_statement.proofs.Responding.{done_responds, refused_responds, fault_here}
use Rattle.script_cli_statement.proofs.Responding.{stands_after, stands_still, untouched_between}
use Rattle.script_cli_statement.proofs.Responding.{puts_itself, still_takes, on_ok, reason_counted}
use Rattle.script_cli_statement.proofs.response.respond_write.Goals as goal

pub returns-in-Ok-clause-replies : goal.returns-in-Ok-clause-replies
returns-in-Ok-clause-replies g c = λ limit now represents.
    let M = g.D.Disk.meaning in
    let a = c.args.archive.now in
    let b = c.commit.new.self in
    let command = command_of c.args.command in
    let h = c.in-Ok.ensures.commits now.past represents.past in
    subst (λ r. Responds limit (command_reply limit command now) r a b
    (g.K.Sink.written c.args.sink.now) (g.K.Sink.written c.put_done.new.sink))
    (sym c.or_write_fault.ensures)
    (done_responds _ _ limit now a b command c.in-Ok.done c.put_done.result
    (fault_here a limit now command None represents h.0) h.1
    (stands_after a b limit now represents command h.2 c.in-Ok.ensures.place
    c.commit.ensures.limit) (
      logged command ∷ [],
      (refl, tt),
      put_one (below a) (below b) (place_of a) (place_of b) (logged command)
          (g.met.D.Disk.valid a.journal.disk) c.in-Ok.ensures.encoded c.in-Ok.ensures.holds
          c.commit.ensures.puts c.in-Ok.ensures.acknowledged,
    )
    c.put_done.ensures.ok c.put_done.ensures.all c.put_done.ensures.part)

pub returns-in-Err-Refused-clause-replies : goal.returns-in-Err-Refused-clause-replies
returns-in-Err-Refused-clause-replies g c = λ limit now represents.
    let a = c.args.archive.now in
    let b = c.commit.new.self in
    let command = command_of c.args.command in
    let h = rw c.in-Err-Refused.field-0-is at
    (c.in-Err-Refused.ensures.commits now.past represents.past) in
    let same = c.in-Err-Refused.ensures.untouched (λ e. cc (e, c.in-Err-Refused.field-0-is)) in
    subst (λ r. Responds limit (command_reply limit command now) r a b
    (g.K.Sink.written c.args.sink.now) (g.K.Sink.written c.refuse.new.sink))
    (sym c.or_write_fault-in-Err-Refused.ensures)
    (refused_responds _ _ limit now a b c.in-Err-Refused.refusal
    (commit_fault now.past now.at limit.limit command) (put_command command now) c.refuse.result
    (fault_here a limit now command (Some c.in-Err-Refused.refusal) represents h.0)
    (stands_still a b limit now represents h.1.represents same.1 c.commit.ensures.limit)
    (untouched_between a b (g.met.D.Disk.valid a.journal.disk) same.0 same.1)
    c.refuse.ensures.ok c.refuse.ensures.all c.refuse.ensures.part)

pub returns-in-Err-Broken-clause-replies : goal.returns-in-Err-Broken-clause-replies
returns-in-Err-Broken-clause-replies g c = λ limit now represents.
    let broken = c.commit.ensures.broken.0 (c.in-Err-Broken.is
    ∙ ap Err c.in-Err-Broken.field-0-is) in absurd (cc (broken, c.requires.takes))

pub returns-in-Err-Disk-clause-replies : goal.returns-in-Err-Disk-clause-replies
returns-in-Err-Disk-clause-replies g c = λ limit now represents.
    let a = c.args.archive.now in
    let command = command_of c.args.command in
    let h = rw c.in-Err-Disk.field-0-is at
    (c.in-Err-Disk.ensures.commits now.past represents.past) in (
      refl,
      record {
        what = command_due command;
        due_is = puts_itself now (commit_fault now.past now.at limit.limit command) _
            (command_due command) (fault_here a limit now command None represents h.0);
        its_record = logged command;
        is_its = refl;
        encoded = c.commit.ensures.encoded_so_far
            (c.in-Err-Disk.is ∙ ap Err c.in-Err-Disk.field-0-is);
        puts_it = c.commit.ensures.puts;
      },
    )

pub returns-in-Err-NoMemory-clause-replies : goal.returns-in-Err-NoMemory-clause-replies
returns-in-Err-NoMemory-clause-replies g c = λ limit now represents.
    let a = c.args.archive.now in
    let b = c.commit.new.self in
    let same = c.in-Err-NoMemory.ensures.untouched (λ e. cc (e, c.in-Err-NoMemory.field-0-is)) in
    (refl, untouched_between a b (g.met.D.Disk.valid a.journal.disk) same.0 same.1)

-- ---- it takes records still, and the counts of faults

pub returns-in-Ok-clause-takes : goal.returns-in-Ok-clause-takes
returns-in-Ok-clause-takes g c =
    on_ok _ _ (still_takes c.commit.new.self
    (λ e. ⊎_elim (λ before. cc (before, c.requires.takes)) (λ failed. cc (failed, c.in-Ok.is))
    (c.commit.ensures.breaks.0 e)))

pub returns-in-Err-Refused-clause-takes : goal.returns-in-Err-Refused-clause-takes
returns-in-Err-Refused-clause-takes g c =
    on_ok _ _ (still_takes c.commit.new.self
    (λ e. ⊎_elim (λ before. cc (before, c.requires.takes))
    (λ failed. cc (failed, c.in-Err-Refused.is, c.in-Err-Refused.field-0-is))
    (c.commit.ensures.breaks.0 e)))

pub returns-in-Ok-clause-counts : goal.returns-in-Ok-clause-counts
returns-in-Ok-clause-counts g c =
    subst (λ r. StopCounted r (g.K.Sink.faults c.args.sink.now)
    (g.K.Sink.faults c.put_done.new.sink) (below c.args.archive.now).faults
    (below c.commit.new.self).faults) (sym c.or_write_fault.ensures)
    (reason_counted c.put_done.result _ _ _ _ c.put_done.ensures.cause
    (c.commit.ensures.unfailed (λ e. cc (e, c.in-Ok.is))))

pub returns-in-Err-Refused-clause-counts : goal.returns-in-Err-Refused-clause-counts
returns-in-Err-Refused-clause-counts g c =
    subst (λ r. StopCounted r (g.K.Sink.faults c.args.sink.now) (g.K.Sink.faults c.refuse.new.sink)
    (below c.args.archive.now).faults (below c.commit.new.self).faults)
    (sym c.or_write_fault-in-Err-Refused.ensures)
    (reason_counted c.refuse.result _ _ _ _ c.refuse.ensures.cause
    (c.commit.ensures.unfailed (λ e. cc (e, c.in-Err-Refused.is, c.in-Err-Refused.field-0-is))))

pub returns-in-Err-Broken-clause-counts : goal.returns-in-Err-Broken-clause-counts
returns-in-Err-Broken-clause-counts g c =
    let broken = c.commit.ensures.broken.0 (c.in-Err-Broken.is
    ∙ ap Err c.in-Err-Broken.field-0-is) in absurd (cc (broken, c.requires.takes))

pub returns-in-Err-Disk-clause-counts : goal.returns-in-Err-Disk-clause-counts
returns-in-Err-Disk-clause-counts g c = (
  refl,
  (
    c.commit.ensures.puts.goes.counts,
    c.commit.ensures.cause
        (c.in-Err-Disk.is ∙ ap Err c.in-Err-Disk.field-0-is),
  ),
)

pub returns-in-Err-NoMemory-clause-counts : goal.returns-in-Err-NoMemory-clause-counts
returns-in-Err-NoMemory-clause-counts g c = (
  refl,
  c.commit.ensures.unfailed (λ e. cc (e, c.in-Err-NoMemory.is, c.in-Err-NoMemory.field-0-is)),
)
