use Rattle.std.proofs.Common.{◌≡◌, rules, sym, subst}
use Rattle.disk_model.specs.Moments.{GoesOn}
use Rattle.disk_model.specs.BorrowLaws.{borrowed_goes}
use Rattle.piece_ir_spec.specs.Books.{book_of}
use Rattle.script_cli.specs.Runs.{RunsOver, given_by}
use Rattle.script_cli.proofs.Borrowed.{runs_borrowed}
use Rattle.script_cli.proofs.program_run.run_borrowed.Goals as goal

-- what comes back is the reference that was borrowed, so the disk is as it then stands
pub returns-clause-goes : goal.returns-clause-goes
returns-clause-goes g c =
    let M = g.D.Disk.meaning in
    let back : c.disk-1.given.0 ≡ c.run_over-ended.result.1.now = search rules in
    subst (λ d. GoesOn (M c.args.disk.now) (M d)) (sym back)
    (borrowed_goes _ _ (M c.args.disk.now) (M c.run_over-ended.result.1.now)
    c.run_over-ended.ensures.goes)

pub returns-clause-runs : goal.returns-clause-runs
returns-clause-runs g c =
    let M = g.D.Disk.meaning in
    let back : c.disk-1.given.0 ≡ c.run_over-ended.result.1.now = search rules in
    subst (λ d. RunsOver (given_by c.args.limit
    (book_of g.R.Rule.handles g.R.Rule.answers c.args.book.now.rules.items))
    c.run_over-ended.result.0 (g.S.Source.left c.args.source.now)
    (g.S.Source.left c.run_over-ended.new.source) (g.K.Sink.written c.args.sink.now)
    (g.K.Sink.written c.run_over-ended.new.sink)
    (g.K.Sink.faults c.args.sink.now) (g.K.Sink.faults c.run_over-ended.new.sink)
    (M c.args.disk.now) (M d)) (sym back)
    (runs_borrowed _ _ (M c.args.disk.now) (M c.run_over-ended.result.1.now)
    (given_by c.args.limit (book_of g.R.Rule.handles g.R.Rule.answers c.args.book.now.rules.items))
    c.run_over-ended.result.0 _ _ _ _ _ _ c.run_over-ended.ensures.runs)
