use Rattle.std.proofs.Common.{inl, inr, refl, sym, subst}
use Rattle.disk_model.specs.Moments.{GoesOn}
use Rattle.disk_model.specs.MomentLaws.{goes_trans}
use Rattle.script_cli_statement.specs.ArchiveOnDisk.{below, place_of}
use Rattle.piece_ir_spec.specs.Books.{book_of}
use Rattle.script_cli.specs.Runs.{RunsOver, NotOpened, SourceCounted, DiskCounted, given_by}
use Rattle.script_cli.proofs.OnDisks.{start_of, ran_opened, put_goes}
use Rattle.script_cli.proofs.Unopened.{not_opened, disk_unopened, source_unopened, disk_after}
use Rattle.script_cli.proofs.disk_run.run_over.Goals as goal

pub returns-in-Err-clause-runs : goal.returns-in-Err-clause-runs
returns-in-Err-clause-runs g c =
    let M = g.D.Disk.meaning in
    let has = c.in-Err.ensures.fault in
    inl (subst (λ s. NotOpened s (g.S.Source.left c.args.source.now)
    (g.S.Source.left c.args.source.now) (g.K.Sink.written c.args.sink.now)
    (g.K.Sink.written c.refuse_file.new.sink)
    (g.K.Sink.faults c.args.sink.now) (g.K.Sink.faults c.refuse_file.new.sink) (M c.args.disk)
    (M c.in-Err.disk)) (sym c.refuse_file.ensures.status)
    (not_opened (M c.args.disk) (M c.in-Err.disk) c.in-Err.fault _ _ _ _ _
    c.refuse_file.ensures.told has))

pub returns-in-Err-clause-goes : goal.returns-in-Err-clause-goes
returns-in-Err-clause-goes g c = c.in-Err.ensures.fault.goes

pub returns-in-Err-clause-source : goal.returns-in-Err-clause-source
returns-in-Err-clause-source g c = subst (λ s.
    SourceCounted s (g.S.Source.faults c.args.source.now) (g.S.Source.faults c.args.source.now))
    (sym c.refuse_file.ensures.status) (source_unopened c.in-Err.fault _)

pub returns-in-Err-clause-disk : goal.returns-in-Err-clause-disk
returns-in-Err-clause-disk g c =
    let M = g.D.Disk.meaning in
    subst (λ s. DiskCounted s (M c.args.disk).faults (M c.in-Err.disk).faults)
    (sym c.refuse_file.ensures.status) (disk_unopened (M c.args.disk) (M c.in-Err.disk)
    c.in-Err.fault c.in-Err.ensures.fault)

pub returns-in-Ok-clause-runs : goal.returns-in-Ok-clause-runs
returns-in-Ok-clause-runs g c =
    let M = g.D.Disk.meaning in
    let has = c.in-Ok.ensures.opened in
    let start = start_of (M c.args.disk) c.args.limit
    (book_of g.R.Rule.handles g.R.Rule.answers c.args.book.now.rules.items)
    c.in-Ok.archive has in
    let ran_script = c.drive-driven.ensures.ran_script (given_by c.args.limit
    (book_of g.R.Rule.handles g.R.Rule.answers c.args.book.now.rules.items))
    refl start.0 start.1 start.3 in
    let new = c.drive-driven.new.archive in
    subst (λ d. RunsOver (given_by c.args.limit
    (book_of g.R.Rule.handles g.R.Rule.answers c.args.book.now.rules.items))
    c.drive-driven.result.status (g.S.Source.left c.args.source.now)
    (g.S.Source.left c.drive-driven.new.source) (g.K.Sink.written c.args.sink.now)
    (g.K.Sink.written c.drive-driven.new.sink)
    (g.K.Sink.faults c.args.sink.now) (g.K.Sink.faults c.drive-driven.new.sink) (M c.args.disk)
    (M d)) (sym c.into_disk.ensures)
    (inr (ran_opened c.a_file_opens_or_is_damaged.ensures.one (M c.args.disk) c.args.limit
    (book_of g.R.Rule.handles g.R.Rule.answers c.args.book.now.rules.items)
    c.in-Ok.archive has start.0 start.2 start.3 c.drive-driven.result.status _ _ _ _ (below new)
    (g.met.D.Disk.valid new.journal.disk) ran_script))

pub returns-in-Ok-clause-goes : goal.returns-in-Ok-clause-goes
returns-in-Ok-clause-goes g c =
    let M = g.D.Disk.meaning in
    let has = c.in-Ok.ensures.opened in
    let start = start_of (M c.args.disk) c.args.limit
    (book_of g.R.Rule.handles g.R.Rule.answers c.args.book.now.rules.items)
    c.in-Ok.archive has in
    let ran_script = c.drive-driven.ensures.ran_script (given_by c.args.limit
    (book_of g.R.Rule.handles g.R.Rule.answers c.args.book.now.rules.items))
    refl start.0 start.1 start.3 in
    let new = c.drive-driven.new.archive in
    subst (λ d. GoesOn (M c.args.disk) (M d)) (sym c.into_disk.ensures)
    (goes_trans (M c.args.disk) (below c.in-Ok.archive) (below new) has.goes
    (put_goes c.drive-driven.result.status (below c.in-Ok.archive) (below new)
    (place_of c.in-Ok.archive) _ _ ran_script.puts))

pub returns-in-Ok-clause-disk : goal.returns-in-Ok-clause-disk
returns-in-Ok-clause-disk g c =
    let M = g.D.Disk.meaning in
    subst (λ d. DiskCounted c.drive-driven.result.status (M c.args.disk).faults (M d).faults)
    (sym c.into_disk.ensures)
    (disk_after c.drive-driven.result.status (M c.args.disk).faults (below c.in-Ok.archive).faults
    (below c.drive-driven.new.archive).faults c.in-Ok.ensures.opened.unfailed
    c.drive-driven.ensures.disk)

pub drive-driven-requires : goal.drive-driven-requires
drive-driven-requires g c = record { takes = c.in-Ok.ensures.opened.takes }
