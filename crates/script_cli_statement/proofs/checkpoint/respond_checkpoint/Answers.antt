use Rattle.std.proofs.Common.{length, ap, sym, subst, refl, ◌∙◌, ⊎_elim, [], ◌∷◌, Some, None, Err}
use Rattle.store_image_spec.specs.Encoding.{image_bytes}
use Rattle.script_cli_vault.specs.ArchiveOnDisk.{standing_of, below, place_of, checkpoint_fault}
use Rattle.script_cli_vault.specs.ArchiveOnDisk.{image_of_archive, checkpoint_of}
use Rattle.script_cli_statement.specs.Due.{image_due}
use Rattle.script_cli_statement.specs.Replies.{checkpoint_reply, put_image}
use Rattle.script_cli_vault.specs.ArchiveOnDisk.{RepresentsPast}
use Rattle.script_cli_statement.specs.StopReasons.{StopCounted}
use Rattle.script_cli_statement.specs.Responses.{Responds}
use Rattle.script_cli_statement.proofs.OnePut.{put_one}
use Rattle.script_cli_statement.proofs.Responding.{stored_responds, refused_responds}
use Rattle.script_cli_statement.proofs.Responding.{checkpoint_fault_here, stands_stored}
use Rattle.script_cli_statement.proofs.Responding.{stands_still}
use Rattle.script_cli_statement.proofs.Responding.{untouched_between, puts_itself, still_takes}
use Rattle.script_cli_statement.proofs.Responding.{on_ok}
use Rattle.script_cli_statement.proofs.Responding.{reason_counted}
use Rattle.script_cli_statement.proofs.checkpoint.respond_checkpoint.Goals as goal

pub returns-in-Ok-clause-replies : goal.returns-in-Ok-clause-replies
returns-in-Ok-clause-replies g c = λ limit now represents.
    let M = g.D.Disk.meaning in
    let a = c.args.archive.now in
    let b = c.checkpoint.new.self in
    let is = c.in-Ok.ensures.image now.past represents.past in
    let image = image_of_archive (standing_of a) in
    let fits = rw c.in-Ok.is at (c.checkpoint.ensures.checkpoints now.past represents.past) in
    subst (λ r. Responds limit (checkpoint_reply limit now) r a b (g.K.Sink.written c.args.sink.now)
    (g.K.Sink.written c.put_stored.new.sink)) (sym c.or_write_fault.ensures)
    (stored_responds _ _ limit now a b c.put_stored.result
    (checkpoint_fault_here a limit now None represents fits)
    (stands_stored a b limit now represents (length (image_bytes image)) is.length
    (subst (λ s. RepresentsPast s now.past) (sym c.checkpoint.ensures.same) represents.past)
    c.in-Ok.ensures.place c.checkpoint.ensures.limit) (
      checkpoint_of (standing_of a) ∷ [],
      (is, tt),
      put_one (below a) (below b) (place_of a) (place_of b) (checkpoint_of (standing_of a))
          (g.met.D.Disk.valid a.journal.disk) is.valid c.in-Ok.ensures.holds
          c.checkpoint.ensures.puts c.in-Ok.ensures.acknowledged,
    )
    c.put_stored.ensures.ok c.put_stored.ensures.all c.put_stored.ensures.part)

pub returns-in-Err-Refused-clause-replies : goal.returns-in-Err-Refused-clause-replies
returns-in-Err-Refused-clause-replies g c = λ limit now represents.
    let a = c.args.archive.now in
    let b = c.checkpoint.new.self in
    let refused = rw c.in-Err-Refused.field-0-is at
    (rw c.in-Err-Refused.is at (c.checkpoint.ensures.checkpoints now.past represents.past)) in
    let same = c.in-Err-Refused.ensures.untouched (λ e. cc (e, c.in-Err-Refused.field-0-is)) in
    subst (λ r. Responds limit (checkpoint_reply limit now) r a b (g.K.Sink.written c.args.sink.now)
    (g.K.Sink.written c.refuse.new.sink)) (sym c.or_write_fault-in-Err-Refused.ensures)
    (refused_responds _ _ limit now a b c.in-Err-Refused.refusal
    (checkpoint_fault now.past now.at limit.limit) (put_image now) c.refuse.result
    (checkpoint_fault_here a limit now (Some c.in-Err-Refused.refusal) represents refused)
    (stands_still a b limit now represents (subst (λ s. RepresentsPast s now.past)
    (sym c.checkpoint.ensures.same) represents.past) same.1 c.checkpoint.ensures.limit)
    (untouched_between a b (g.met.D.Disk.valid a.journal.disk) same.0 same.1)
    c.refuse.ensures.ok c.refuse.ensures.all c.refuse.ensures.part)

pub returns-in-Err-Broken-clause-replies : goal.returns-in-Err-Broken-clause-replies
returns-in-Err-Broken-clause-replies g c = λ limit now represents.
    let broken = c.checkpoint.ensures.broken.0
    (c.in-Err-Broken.is ∙ ap Err c.in-Err-Broken.field-0-is) in
    absurd (cc (broken, c.requires.takes))

pub returns-in-Err-Disk-clause-replies : goal.returns-in-Err-Disk-clause-replies
returns-in-Err-Disk-clause-replies g c = λ limit now represents.
    let a = c.args.archive.now in
    let is = c.checkpoint.ensures.image_so_far (c.in-Err-Disk.is ∙ ap Err c.in-Err-Disk.field-0-is)
    now.past represents.past in
    let fits = rw c.in-Err-Disk.field-0-is at
    (rw c.in-Err-Disk.is at (c.checkpoint.ensures.checkpoints now.past represents.past)) in (
      refl,
      record {
        what = image_due now.past;
        due_is = puts_itself now (checkpoint_fault now.past now.at limit.limit) _
            (image_due now.past) (checkpoint_fault_here a limit now None represents fits);
        its_record = checkpoint_of (standing_of a);
        is_its = is;
        encoded = is.valid;
        puts_it = c.checkpoint.ensures.puts;
      },
    )

pub returns-in-Err-NoMemory-clause-replies : goal.returns-in-Err-NoMemory-clause-replies
returns-in-Err-NoMemory-clause-replies g c = λ limit now represents.
    let a = c.args.archive.now in
    let b = c.checkpoint.new.self in
    let same = c.in-Err-NoMemory.ensures.untouched (λ e. cc (e, c.in-Err-NoMemory.field-0-is)) in
    (refl, untouched_between a b (g.met.D.Disk.valid a.journal.disk) same.0 same.1)

-- ---- it takes records still, and the counts of faults

pub returns-in-Ok-clause-takes : goal.returns-in-Ok-clause-takes
returns-in-Ok-clause-takes g c =
    on_ok _ _ (still_takes c.checkpoint.new.self
    (λ e. ⊎_elim (λ before. cc (before, c.requires.takes)) (λ failed. cc (failed, c.in-Ok.is))
    (c.checkpoint.ensures.breaks.0 e)))

pub returns-in-Err-Refused-clause-takes : goal.returns-in-Err-Refused-clause-takes
returns-in-Err-Refused-clause-takes g c =
    on_ok _ _ (still_takes c.checkpoint.new.self
    (λ e. ⊎_elim (λ before. cc (before, c.requires.takes))
    (λ failed. cc (failed, c.in-Err-Refused.is, c.in-Err-Refused.field-0-is))
    (c.checkpoint.ensures.breaks.0 e)))

pub returns-in-Ok-clause-counts : goal.returns-in-Ok-clause-counts
returns-in-Ok-clause-counts g c =
    subst (λ r. StopCounted r (g.K.Sink.faults c.args.sink.now)
    (g.K.Sink.faults c.put_stored.new.sink) (below c.args.archive.now).faults
    (below c.checkpoint.new.self).faults) (sym c.or_write_fault.ensures)
    (reason_counted c.put_stored.result _ _ _ _ c.put_stored.ensures.cause
    (c.checkpoint.ensures.unfailed (λ e. cc (e, c.in-Ok.is))))

pub returns-in-Err-Refused-clause-counts : goal.returns-in-Err-Refused-clause-counts
returns-in-Err-Refused-clause-counts g c =
    subst (λ r. StopCounted r (g.K.Sink.faults c.args.sink.now) (g.K.Sink.faults c.refuse.new.sink)
    (below c.args.archive.now).faults (below c.checkpoint.new.self).faults)
    (sym c.or_write_fault-in-Err-Refused.ensures)
    (reason_counted c.refuse.result _ _ _ _ c.refuse.ensures.cause
    (c.checkpoint.ensures.unfailed (λ e. cc
    (e, c.in-Err-Refused.is, c.in-Err-Refused.field-0-is))))

pub returns-in-Err-Broken-clause-counts : goal.returns-in-Err-Broken-clause-counts
returns-in-Err-Broken-clause-counts g c =
    let broken = c.checkpoint.ensures.broken.0
    (c.in-Err-Broken.is ∙ ap Err c.in-Err-Broken.field-0-is) in
    absurd (cc (broken, c.requires.takes))

pub returns-in-Err-Disk-clause-counts : goal.returns-in-Err-Disk-clause-counts
returns-in-Err-Disk-clause-counts g c = (
  refl,
  (
    c.checkpoint.ensures.puts.goes.counts,
    c.checkpoint.ensures.cause
        (c.in-Err-Disk.is ∙ ap Err c.in-Err-Disk.field-0-is),
  ),
)

pub returns-in-Err-NoMemory-clause-counts : goal.returns-in-Err-NoMemory-clause-counts
returns-in-Err-NoMemory-clause-counts g c = (
  refl,
  c.checkpoint.ensures.unfailed (λ e. cc (e, c.in-Err-NoMemory.is, c.in-Err-NoMemory.field-0-is)),
)
