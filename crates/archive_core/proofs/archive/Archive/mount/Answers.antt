use Rattle.std.proofs.Common.{◌≡◌, ◌≤◌, ◌+◌, List, inl, inr, length, sym, subst, ap, ◌∙◌}
use Rattle.disk_model.specs.Meaning.{BothKnown}
use Rattle.journal.specs.Damage.{IsDamagedAt}
use Rattle.journal.specs.Records.{opened_file}
use Rattle.journal.specs.Reading.{records_in, AreInPlace}
use Rattle.archive_core_file_spec.specs.LogRecords.{LogRecord, records_of, replayed_of}
use Rattle.archive_core_file_spec.specs.Opening.{Damages, HasFaultAt}
use Rattle.archive_core.proofs.Mounted.{tell_frames, tell_damaged, tell_untouched, tell_cost}
use Rattle.archive_core.proofs.Mounted.{tell_cost_open, stands_as, holds_as}
use Rattle.archive_core.proofs.archive.Archive.mount.Goals as goal

pub restore-requires : goal.restore-requires
restore-requires g c = subst AreInPlace (sym c.deref.ensures.value) c.in-Ok.ensures.in_place

pub returns-in-Err-clause-damaged : goal.returns-in-Err-clause-damaged
returns-in-Err-clause-damaged g c place is =
    tell_frames (g.D.Disk.meaning c.args.disk).seen (λ file. IsDamagedAt file place)
    (λ file. Damages file place) (λ file h. inl h)
    (c.in-Err.ensures.damaged place (c.fault_of_journal.ensures.damaged place is))

pub returns-in-Err-restore-clause-damaged : goal.returns-in-Err-restore-clause-damaged
returns-in-Err-restore-clause-damaged g c place is =
    tell_damaged (g.D.Disk.meaning c.args.disk).seen c.in-Ok.recs.items c.in-Ok.journal.at place
    c.in-Ok.ensures.opened
    (subst (λ l. HasFaultAt (records_in l) place) c.deref.ensures.value
    (c.in-Err-restore.ensures.damaged place
    (cc (c.fault_of_restoring.ensures.damaged place is))))

pub returns-in-Err-restore-clause-untouched : goal.returns-in-Err-restore-clause-untouched
returns-in-Err-restore-clause-untouched g c place is =
    ap (λ d. (g.D.Disk.meaning d).seen) c.into_disk.ensures
    ∙ tell_untouched (g.D.Disk.meaning c.args.disk).seen
    (g.D.Disk.meaning c.in-Ok.journal.disk).seen c.in-Ok.recs.items c.in-Ok.journal.at place
    c.in-Ok.ensures.opened c.in-Ok.ensures.file
    (subst (λ l. HasFaultAt (records_in l) place) c.deref.ensures.value
    (c.in-Err-restore.ensures.damaged place
    (cc (c.fault_of_restoring.ensures.damaged place is))))

pub returns-in-Err-clause-kept_or_begun : goal.returns-in-Err-clause-kept_or_begun
returns-in-Err-clause-kept_or_begun g c other =
    inl (c.in-Err.ensures.untouched (λ is. other (c.fault_of_journal.ensures.from_disk is)))

pub returns-in-Err-restore-clause-kept_or_begun : goal.returns-in-Err-restore-clause-kept_or_begun
returns-in-Err-restore-clause-kept_or_begun g c other =
    let M = g.D.Disk.meaning in
    inr (subst (λ d. BothKnown (λ before after. after ≡ opened_file before) (M c.args.disk).seen
    (M d).seen) (sym c.into_disk.ensures) c.in-Ok.ensures.file)

pub returns-in-Err-restore-clause-cost : goal.returns-in-Err-restore-clause-cost
returns-in-Err-restore-clause-cost g c =
    tell_cost (g.D.Disk.meaning c.args.disk).seen c.in-Ok.recs.items c.in-Ok.journal.at
    c.args.steps.now c.restore.new.steps c.in-Ok.ensures.opened
    (subst (λ l. c.restore.new.steps ≤ c.args.steps.now + length l) c.deref.ensures.value
    c.restore.ensures.cost)

pub returns-clause-stands : goal.returns-clause-stands
returns-clause-stands g c file log honest is opens =
    stands_as (g.D.Disk.meaning c.in-Ok.journal.disk) (g.D.Disk.meaning c.args.disk).seen
    c.in-Ok.recs.items c.in-Ok.journal.at file log is c.in-Ok.ensures.opened opens
    (c.in-Ok.ensures.stands file honest is)

pub returns-clause-cost : goal.returns-clause-cost
returns-clause-cost g c =
    tell_cost (g.D.Disk.meaning c.args.disk).seen c.in-Ok.recs.items c.in-Ok.journal.at
    c.args.steps.now c.restore.new.steps c.in-Ok.ensures.opened
    (subst (λ l. c.restore.new.steps ≤ c.args.steps.now + length l) c.deref.ensures.value
    c.restore.ensures.cost)

pub returns-in-Err-restore-clause-cost_open : goal.returns-in-Err-restore-clause-cost_open
returns-in-Err-restore-clause-cost_open g c =
    tell_cost_open (g.D.Disk.meaning c.args.disk).seen c.in-Ok.recs.items c.in-Ok.journal.at
    c.args.steps.now c.restore.new.steps c.in-Ok.ensures.opened
    (subst (λ l. (log : List LogRecord) → records_in l ≡ records_of log
    → c.restore.new.steps ≤ c.args.steps.now + replayed_of log) c.deref.ensures.value
    c.restore.ensures.cost_open)

pub returns-clause-cost_open : goal.returns-clause-cost_open
returns-clause-cost_open g c =
    tell_cost_open (g.D.Disk.meaning c.args.disk).seen c.in-Ok.recs.items c.in-Ok.journal.at
    c.args.steps.now c.restore.new.steps c.in-Ok.ensures.opened
    (subst (λ l. (log : List LogRecord) → records_in l ≡ records_of log
    → c.restore.new.steps ≤ c.args.steps.now + replayed_of log) c.deref.ensures.value
    c.restore.ensures.cost_open)

pub returns-clause-holds : goal.returns-clause-holds
returns-clause-holds g c file log is opens =
    holds_as (g.D.Disk.meaning c.args.disk) (g.D.Disk.meaning c.in-Ok.journal.disk)
    c.in-Ok.recs.items c.in-Ok.journal.at file log is c.in-Ok.ensures.opened
    c.in-Ok.ensures.file opens
