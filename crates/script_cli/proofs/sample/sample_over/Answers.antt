use Rattle.std.proofs.Common.{inl, inr, [], refl, sym, subst}
use Rattle.std.specs.Prelude.{Some}
use Rattle.disk_model.specs.Moments.{GoesOn}
use Rattle.disk_model.specs.MomentLaws.{goes_trans}
use Rattle.script_cli_statement.specs.ArchiveOnDisk.{below, place_of}
use Rattle.script_cli_sample.specs.Statements.{sample_script}
use Rattle.piece_ir_spec.specs.Books.{book_of}
use Rattle.script_cli.specs.Runs.{NotOpened, DiskCounted, given_by}
use Rattle.script_cli.specs.Sampling.{SamplesOver}
use Rattle.script_cli.proofs.OnDisks.{start_of, ran_opened, ran_opened_start, put_goes}
use Rattle.script_cli.proofs.Unopened.{not_opened, disk_unopened, disk_after}
use Rattle.script_cli.proofs.SampleDriven.{sample_is}
use Rattle.script_cli.proofs.sample.sample_over.Goals as goal

-- ---- the file was not opened

pub returns-in-Err-clause-samples : goal.returns-in-Err-clause-samples
returns-in-Err-clause-samples g c = λ left.
    let M = g.D.Disk.meaning in
    let has = c.in-Err.ensures.fault in
    inl (subst (λ s. NotOpened s left left (g.K.Sink.written c.args.sink.now)
    (g.K.Sink.written c.refuse_file.new.sink)
    (g.K.Sink.faults c.args.sink.now) (g.K.Sink.faults c.refuse_file.new.sink) (M c.args.disk)
    (M c.in-Err.disk)) (sym c.refuse_file.ensures.status)
    (not_opened (M c.args.disk) (M c.in-Err.disk) c.in-Err.fault _ _ _ _ _
    c.refuse_file.ensures.told has))

pub returns-in-Err-clause-goes : goal.returns-in-Err-clause-goes
returns-in-Err-clause-goes g c = c.in-Err.ensures.fault.goes

pub returns-in-Err-clause-disk : goal.returns-in-Err-clause-disk
returns-in-Err-clause-disk g c =
    let M = g.D.Disk.meaning in
    subst (λ s. DiskCounted s (M c.args.disk).faults (M c.in-Err.disk).faults)
    (sym c.refuse_file.ensures.status) (disk_unopened (M c.args.disk) (M c.in-Err.disk)
    c.in-Err.fault c.in-Err.ensures.fault)

-- ---- it was

pub returns-in-Ok-clause-samples : goal.returns-in-Ok-clause-samples
returns-in-Ok-clause-samples g c = λ left.
    let M = g.D.Disk.meaning in
    let has = c.in-Ok.ensures.opened in
    let script = sample_script c.args.size in
    let start = start_of (M c.args.disk) c.args.limit
    (book_of g.R.Rule.handles g.R.Rule.answers c.args.book.now.rules.items)
    c.in-Ok.archive has in
    let it = c.sample-status.ensures.ran_script (given_by c.args.limit
    (book_of g.R.Rule.handles g.R.Rule.answers c.args.book.now.rules.items))
    refl start.0 start.1 start.3 in
    let new = c.sample-status.new.archive in
    let law = g.met.D.Disk.valid new.journal.disk in
    let ran = ran_opened c.a_file_opens_or_is_damaged.ensures.one (M c.args.disk) c.args.limit
    (book_of g.R.Rule.handles g.R.Rule.answers c.args.book.now.rules.items)
    c.in-Ok.archive has start.0 start.2 start.3 it.driven (Some script) it.left (Some [])
    (Some it.kept)
    (below new) law it.ran_script in
    let from = ran_opened_start c.a_file_opens_or_is_damaged.ensures.one (M c.args.disk)
    c.args.limit (book_of g.R.Rule.handles g.R.Rule.answers c.args.book.now.rules.items)
    c.in-Ok.archive has start.0 start.2 start.3 it.driven (Some script) it.left (Some [])
    (Some it.kept)
    (below new) law it.ran_script in
    subst (λ d. SamplesOver c.args.size (given_by c.args.limit
    (book_of g.R.Rule.handles g.R.Rule.answers c.args.book.now.rules.items))
    c.sample-status.result left left (g.K.Sink.written c.args.sink.now)
    (g.K.Sink.written c.sample-status.new.sink)
    (g.K.Sink.faults c.args.sink.now) (g.K.Sink.faults c.sample-status.new.sink) (M c.args.disk)
    (M d)) (sym c.into_disk.ensures)
    (inr (sample_is (given_by c.args.limit
    (book_of g.R.Rule.handles g.R.Rule.answers c.args.book.now.rules.items))
    script it.driven it.left it.kept (M c.args.disk) (below new) ran c.args.size
    c.in-Ok.opened.commands c.sample-status.result _ _ start.0 from c.in-Ok.ensures.commands
    it.ended))

pub returns-in-Ok-clause-goes : goal.returns-in-Ok-clause-goes
returns-in-Ok-clause-goes g c =
    let M = g.D.Disk.meaning in
    let has = c.in-Ok.ensures.opened in
    let start = start_of (M c.args.disk) c.args.limit
    (book_of g.R.Rule.handles g.R.Rule.answers c.args.book.now.rules.items)
    c.in-Ok.archive has in
    let it = c.sample-status.ensures.ran_script (given_by c.args.limit
    (book_of g.R.Rule.handles g.R.Rule.answers c.args.book.now.rules.items))
    refl start.0 start.1 start.3 in
    let new = c.sample-status.new.archive in
    subst (λ d. GoesOn (M c.args.disk) (M d)) (sym c.into_disk.ensures)
    (goes_trans (M c.args.disk) (below c.in-Ok.archive) (below new) has.goes
    (put_goes it.driven (below c.in-Ok.archive) (below new) (place_of c.in-Ok.archive) _ _
    it.ran_script.puts))

pub returns-in-Ok-clause-disk : goal.returns-in-Ok-clause-disk
returns-in-Ok-clause-disk g c =
    let M = g.D.Disk.meaning in
    subst (λ d. DiskCounted c.sample-status.result (M c.args.disk).faults (M d).faults)
    (sym c.into_disk.ensures)
    (disk_after c.sample-status.result (M c.args.disk).faults (below c.in-Ok.archive).faults
    (below c.sample-status.new.archive).faults c.in-Ok.ensures.opened.unfailed
    c.sample-status.ensures.disk)

pub sample-status-requires : goal.sample-status-requires
sample-status-requires g c = record { takes = c.in-Ok.ensures.opened.takes }
